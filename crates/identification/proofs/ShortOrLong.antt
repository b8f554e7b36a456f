-- What its total decides of a section 1.
-- Assumes nothing.
use Prim.Native.Nat.{ℕ, ◌≤◌}
use native.Mathlib.Omega.{arith}
use mathlib.Core.Path.{◌≡◌, sym, subst, ◌∙◌}
use mathlib.Core.List.{List, [], ◌∷◌}
use lib.Dec.{eqb}
use lib.ListN.{length, drop}
use borrow.Author.Tests.{ne_eqb}
use Rattle.layout.specs.Outcomes.{read, reason, opening_reasons}
use Rattle.layout.specs.Totals.{NoLower, ByTotal, Resized}
use Rattle.layout.proofs.Outcomes.{NoneHold, read_none, none_last, opening-read, opening-last, template-read}
use Rattle.layout.proofs.Resized.{number_same, resized-by-total, resized-headed}
use Rattle.layout.proofs.Totals.{AllLower, behind-lower, opening-lower, template-by-total}
use Rattle.identification.specs.Section1.{fields₁, origin, total, values₁, as_template, by_template, outcome₁}
use Rattle.identification.specs.Accepted.{ReadBy, Follows₁}
use Rattle.identification.specs.declared.Template.{Template}
use Rattle.identification.specs.declared.Template.TheVariants.{None as no_template, Calendar, Offset, CalendarAndOffset}
use Rattle.identification.proofs.RefusalNumbers.{within₁}
use Rattle.identification.proofs.AcceptedExactlyWhen.{read_by, template-named, follows-accepted}

as-template : (template : Template) (s : List ℕ) → NoLower (as_template template s) → ByTotal 1 (total template) s (as_template template s)
unfolding as_template
as-template template s =
    template-by-total 1 (total template) _ 0 (total template) s (read (values₁ template s)) (omega arith) (λ e. e) (λ e. e)

pub short-or-long₁ : (template : Template) (s : List ℕ) → ReadBy template s → NoLower (outcome₁ s) → ByTotal 1 (total template) s (outcome₁ s)
unfolding outcome₁ AllLower
short-or-long₁ template s by =
    behind-lower (ByTotal 1 (total template) s) 1 (opening_reasons 1 21 s) _ (opening-lower 1 21 s)
    (behind-lower (ByTotal 1 (total template) s) 1 (reason 5 (eqb (length s) 22) ∷ []) (by_template s) (omega arith, tt)
    (rw (read_by template s by) (as-template template s)))

-- ---- an accepted one that was clipped, but not below its smallest total, or has got a tail

-- octets 22-23 still name its template, if it has one
module _ (s t : List ℕ) (r : Resized s t) (has-template : length s ≡ 21 → ⊥) where
  still-read-by : (template : Template) → Follows₁ template s → total template ≤ length t → ReadBy template t
  still-read-by no_template f enough = absurd (has-template f.whole)
  still-read-by Calendar f enough = ((λ e. omega arith), number_same s t r 24 (omega (arith, f.whole)) enough 22 2 (omega arith) (omega arith) ∙ f.names)
  still-read-by Offset f enough = ((λ e. omega arith), number_same s t r 25 (omega (arith, f.whole)) enough 22 2 (omega arith) (omega arith) ∙ f.names)
  still-read-by CalendarAndOffset f enough = ((λ e. omega arith), number_same s t r 26 (omega (arith, f.whole)) enough 22 2 (omega arith) (omega arith) ∙ f.names)

  with-template : (template : Template) → Follows₁ template s → 24 ≤ total template
  with-template no_template f = absurd (has-template f.whole)
  with-template Calendar f = omega arith
  with-template Offset f = omega arith
  with-template CalendarAndOffset f = omega arith

  pub resized₁ : (template : Template) → Follows₁ template s → total template ≤ length t → length t ≤ 65536 → ByTotal 1 (length s) t (outcome₁ t)
  unfolding outcome₁ as_template NoneHold fields₁ origin
  resized₁ template f enough small =
      let least = with-template template f in
      let head = opening-read 1 s _ 21 _ (follows-accepted template s f) in
      let five = read_none 1 (reason 5 (eqb (length s) 22) ∷ []) (by_template s) _ head.2 in
      let by = sym (read_by template s (template-named template s f.whole f.names)) ∙ five.1 in
      let fits = template-read 1 s _ _ _ _ _ _ by in
      let behind =
      opening-last 1 t _ 21 (resized-headed 1 s t r head.0 (omega arith) small) (omega arith)
      ∙ none_last 1 (reason 5 (eqb (length t) 22) ∷ []) (by_template t) (ne_eqb (length t) 22 (λ e. omega arith), tt)
      ∙ read_by template t (still-read-by template f enough)
      in
      subst (ByTotal 1 (length s) t) (sym behind)
      (resized-by-total 1 (total template) 0 (total template) (drop 1 (fields₁ template)) s t _ r fits.0 enough (within₁ template) (λ e. e) (λ e. e))
