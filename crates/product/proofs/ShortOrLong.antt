-- What its total decides of a section 4.
-- Assumes nothing.
use Prim.Native.Nat.{ℕ, ◌+◌, ◌*◌, ◌<◌, ◌≤◌}
use native.Mathlib.Omega.{arith}
use mathlib.Core.Path.{◌≡◌, refl, sym, ap, subst, ◌∙◌}
use mathlib.Core.List.{List, Memᴰ}
use mathlib.Core.Bool.{Bool, true, false, ◌&&◌}
use lib.Dec.{eqb}
use lib.ListN.{length, drop}
use Rattle.octets.specs.Octets.{be_at}
use Rattle.layout.specs.Outcomes.{read, opening_reasons}
use Rattle.layout.specs.Totals.{NoLower, ByTotal, Resized}
use Rattle.layout.proofs.Outcomes.{either, opening-read, opening-last, template-read}
use Rattle.layout.proofs.Resized.{number_same, resized-by-total, resized-headed}
use Rattle.layout.proofs.Totals.{behind-lower, opening-lower, template-by-total}
use Rattle.product.specs.Blocks.{head}
use Rattle.product.specs.Templates.{template_of, front, fields₄, part_end, ranges_end, total, ranges_at, members_at, lack_of_ranges, fields_in, total_in, values₄}
use Rattle.product.specs.Section4.{as_template, by_template, outcome₄}
use Rattle.product.specs.Table.{TemplateRow, templates₄, count_in, is_timed}
use Rattle.product.specs.Accepted.{Follows₄}
use Rattle.product.specs.declared.templates.PartKind.{PartKind}
use Rattle.product.specs.declared.templates.PartKind.TheVariants.{None as no_part, Ensemble, Cluster, Probability, Aerosol}
use Rattle.product.specs.declared.templates.Template.{Template}
use Rattle.std.specs.Prelude.{Option}
use Rattle.product.proofs.TableAgrees.{table-listed, table-total}
use Rattle.product.proofs.FieldsByBlock.{part-enough}
use Rattle.product.proofs.RefusalNumbers.{within₄}
use Rattle.product.proofs.AcceptedExactlyWhen.{follows-listed, follows-accepted}

as-template : (kind : PartKind) (timed : Bool) (s : List ℕ) → NoLower (as_template kind timed s) → ByTotal 4 (total_in kind timed s) s (as_template kind timed s)
unfolding as_template
as-template kind timed s =
    let lower = either (λ (n : ℕ). n < 11) (timed && eqb (ranges_at kind timed s) 0) {x = 9} {y = 0} (omega arith) (omega arith) in
    template-by-total 4 (total kind timed 1 0 0) _ (lack_of_ranges timed (ranges_at kind timed s)) (total_in kind timed s) s (read (values₄ kind timed s)) lower (λ e. e) (λ e. e)

-- by the total that the table's row gives
pub short-or-long₄ : (row : TemplateRow) (s : List ℕ) → Memᴰ row templates₄ → be_at s 8 2 ≡ row.number → NoLower (outcome₄ s)
    → ByTotal 4 (row.octets + 12 * count_in row.ranges s + count_in row.members s + 4 * be_at s 6 2) s (outcome₄ s)
unfolding outcome₄ by_template
short-or-long₄ row s m names =
    let by = ap template_of names ∙ table-listed row m in
    behind-lower (ByTotal 4 _ s) 4 (opening_reasons 4 9 s) _ (opening-lower 4 9 s)
    (rw (by, ← table-total row m s) (as-template row.part (is_timed row) s))

-- ---- an accepted one that was clipped, but not below its smallest total, or has got a tail

smallest₄ : (kind : PartKind) (timed : Bool) → 9 ≤ total kind timed 1 0 0
unfolding total ranges_end
smallest₄ kind true = omega (arith, part-enough kind)
smallest₄ kind false = omega (arith, part-enough kind)

module _ (s t : List ℕ) (r : Resized s t) where
  ranges-same : (kind : PartKind) (timed : Bool) → total kind timed 1 0 0 ≤ length s → total kind timed 1 0 0 ≤ length t → ranges_at kind timed t ≡ ranges_at kind timed s
  unfolding ranges_at total ranges_end
  ranges-same kind true in-s in-t = number_same s t r (total kind true 1 0 0) in-s in-t (part_end kind + 8) 1 (omega (arith, part-enough kind)) (omega arith)
  ranges-same kind false in-s in-t = refl

  members-same : (kind : PartKind) (timed : Bool) → total kind timed 1 0 0 ≤ length s → total kind timed 1 0 0 ≤ length t → members_at kind t ≡ members_at kind s
  unfolding total ranges_end
  members-same no_part timed in-s in-t = refl
  members-same Ensemble timed in-s in-t = refl
  members-same Cluster true in-s in-t = number_same s t r 88 in-s in-t 54 1 (omega arith) (omega arith)
  members-same Cluster false in-s in-t = number_same s t r 64 in-s in-t 54 1 (omega arith) (omega arith)
  members-same Probability timed in-s in-t = refl
  members-same Aerosol timed in-s in-t = refl

  pub resized₄ : (row : TemplateRow) → Follows₄ row s → total row.part (is_timed row) 1 0 0 ≤ length t → length t ≤ 65536 → ByTotal 4 (length s) t (outcome₄ t)
  unfolding outcome₄ as_template by_template fields₄ front head
  resized₄ row f enough small =
      let kind = row.part in
      let timed = is_timed row in
      let head = opening-read 4 s _ 9 _ (follows-accepted row s f) in
      let by = ap (λ (x : Option Template). by_template x s) (sym (follows-listed row s f)) ∙ head.2 in
      let fits = template-read 4 s _ _ _ _ _ _ by in
      let least = smallest₄ kind timed in
      let same = number_same s t r 9 (omega (arith, least, fits.0.enough)) (omega (arith, least)) in
      let ranges = ranges-same kind timed fits.0.enough enough in
      let members = members-same kind timed fits.0.enough enough in
      let coordinates = same 6 2 (omega arith) (omega arith) in
      let behind =
      opening-last 4 t _ 9 (resized-headed 4 s t r head.0 (omega (arith, least)) small) (omega (arith, least))
      ∙ ap (λ (x : Option Template). by_template x t) (ap template_of (same 8 2 (omega arith) (omega arith)) ∙ follows-listed row s f)
      in
      subst (ByTotal 4 (length s) t) (sym behind)
      (rw (ranges, members, coordinates)
      (resized-by-total 4 (total kind timed 1 0 0) _ _ (drop 1 (fields_in kind timed s)) s t _ r fits.0 enough (within₄ kind timed _ _ _) (λ e. e) (λ e. e)))
