-- A refusal of section 4 has a number and a place as document 01 has them.
-- Assumes nothing.
use Prim.Native.Nat.{ℕ, ◌≤◌}
use mathlib.Core.Path.{◌≡◌, refl}
use mathlib.Core.Bool.{Bool, true, false, ◌&&◌}
use mathlib.Core.List.{List, ◌∷◌}
use lib.ListN.{length, drop}
use lib.Dec.{eqb}
use Rattle.octets.specs.Octets.{be_at}
use Rattle.layout.specs.Fields.{placed, after, bad_place}
use Rattle.layout.specs.Outcomes.{read, told}
use Rattle.layout.specs.Refusals.{one_of, has_place, Listed}
use Rattle.layout.specs.Time.{time}
use Rattle.layout.specs.declared.Refusal.{Refusal}
use Rattle.layout.proofs.Outcomes.{either}
use Rattle.layout.proofs.Refusals.{Refuses, refusal-listed, placeless, opening-refuses, template-refuses, stand_within, bad-within}
use Rattle.product.specs.Blocks.{values_in, head, parameter, process, forecast, scaled, surface, common, ensemble, cluster, probability, aerosol, interval}
use Rattle.product.specs.Templates.{template_of, ahead, behind, front, time_ranges, lists, fields₄, ranges_end, total, ranges_at, lack_of_ranges, total_in, values₄}
use Rattle.product.specs.Section4.{as_template, by_template, outcome₄}
use Rattle.product.specs.Refused.{numbers₄, table₄}
use Rattle.product.specs.declared.templates.PartKind.{PartKind}
use Rattle.product.specs.declared.templates.PartKind.TheVariants.{None as no_part, Ensemble, Cluster, Probability, Aerosol}
use Rattle.product.specs.declared.templates.Template.{Template}
use Rattle.std.specs.Prelude.{Option, Some, None, Err}

-- the fields with a rule stand within the smallest total
pub within₄ : (kind : PartKind) (timed : Bool) (n nc nv : ℕ) → stand_within (total kind timed 1 0 0) (placed 0 5 (drop 1 (fields₄ kind timed n nc nv))) ≡ true
unfolding stand_within placed fields₄ front ahead behind time_ranges lists head parameter process forecast scaled surface common ensemble cluster probability aerosol interval time total ranges_end
within₄ no_part true n nc nv = refl
within₄ no_part false n nc nv = refl
within₄ Ensemble true n nc nv = refl
within₄ Ensemble false n nc nv = refl
within₄ Cluster true n nc nv = refl
within₄ Cluster false n nc nv = refl
within₄ Probability true n nc nv = refl
within₄ Probability false n nc nv = refl
within₄ Aerosol true n nc nv = refl
within₄ Aerosol false n nc nv = refl

-- so the lowest bad field starts there
bad₄ : (kind : PartKind) (timed : Bool) (n nc nv : ℕ) (s : List ℕ) → bad_place (after 0 (fields₄ kind timed n nc nv)) s ≤ total kind timed 1 0 0
unfolding fields₄ front head
bad₄ kind timed n nc nv s = bad-within (total kind timed 1 0 0) (drop 1 (fields₄ kind timed n nc nv)) s (within₄ kind timed n nc nv)

by-template : (template : Option Template) (s : List ℕ) → length s ≤ 65536 → Refuses table₄ (by_template template s)
unfolding by_template as_template
by-template None s small = placeless table₄ 6 4 refl refl
by-template (Some t) s small =
    let kind = t.kind in
    let timed = t.timed in
    let no-ranges = timed && eqb (ranges_at kind timed s) 0 in
    let listed = either (λ (n : ℕ). one_of (0 ∷ numbers₄) n ≡ true) no-ranges refl refl in
    let no_place = either (λ (n : ℕ). has_place n ≡ false) no-ranges refl refl in
    template-refuses table₄ 4 (total kind timed 1 0 0) _ (lack_of_ranges timed (ranges_at kind timed s)) (total_in kind timed s) s (read (values₄ kind timed s)) refl (λ h. refl) listed no_place (bad₄ kind timed _ _ _ s) small tt

pub refuses₄ : (s : List ℕ) → Refuses table₄ (outcome₄ s)
unfolding outcome₄
refuses₄ s = opening-refuses table₄ 4 9 s _ refl (by-template (template_of (be_at s 8 2)) s)

pub product-refuses : (s : List ℕ) (x : Refusal) → told values_in (Err x) ≡ outcome₄ s → Listed table₄ x
product-refuses s x e = refusal-listed table₄ (outcome₄ s) x (refuses₄ s) e
