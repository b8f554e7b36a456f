-- A refusal of section 3 has a number and a place as document 01 has them.
-- Assumes nothing.
use Prim.Native.Nat.{ℕ, ◌≤◌}
use mathlib.Core.Path.{◌≡◌, refl}
use mathlib.Core.Bool.{true, false, not}
use mathlib.Core.List.{List, ◌∷◌}
use lib.ListN.{length, drop}
use lib.Dec.{ltb}
use Rattle.octets.specs.Octets.{be_at}
use Rattle.layout.specs.Fields.{placed, after, bad_place}
use Rattle.layout.specs.Outcomes.{read, first_of, told}
use Rattle.layout.specs.Refusals.{one_of, has_place, Listed}
use Rattle.layout.specs.declared.Refusal.{Refusal}
use Rattle.layout.proofs.Outcomes.{either}
use Rattle.layout.proofs.Refusals.{Refuses, refusal-listed, reason-refuses, opening-refuses, template-refuses, stand_within, bad-within}
use Rattle.grid.specs.Blocks.{grid_head, earth_size, earth, counts, corners, common, pole, poles, values_in}
use Rattle.grid.specs.Templates.{template_named, base_end, fields₃, total, values₃}
use Rattle.grid.specs.Agreement.{agreed, disagreement}
use Rattle.grid.specs.Points.{points_reasons}
use Rattle.grid.specs.Section3.{as_template, outcome₃}
use Rattle.grid.specs.Refused.{numbers₃, table₃}
use Rattle.grid.specs.declared.templates.Template.{Template}
use Rattle.grid.specs.declared.templates.Template.TheVariants.{LatLon, Rotated, Stretched, StretchedAndRotated}
use Rattle.std.specs.Prelude.{Err}

-- the fields with a rule stand within the base
pub within₃ : (template : Template) (n : ℕ) → stand_within (base_end template) (placed 0 5 (drop 1 (fields₃ template n))) ≡ true
unfolding stand_within placed fields₃ grid_head earth_size earth counts corners common pole poles
within₃ LatLon n = refl
within₃ Rotated n = refl
within₃ Stretched n = refl
within₃ StretchedAndRotated n = refl

-- so the lowest bad field starts there
bad₃ : (template : Template) (n : ℕ) (s : List ℕ) → bad_place (after 0 (fields₃ template n)) s ≤ base_end template
unfolding fields₃ grid_head
bad₃ template n s = bad-within (base_end template) (drop 1 (fields₃ template n)) s (within₃ template n)

by-points : (template : Template) (s : List ℕ) → Refuses table₃ (first_of 3 (points_reasons template s) (read (values₃ template s)))
by-points template s = reason-refuses table₃ 3 _ _ (read (values₃ template s)) refl refl tt

as-template : (template : Template) (s : List ℕ) → length s ≤ 65536 → Refuses table₃ (as_template template s)
unfolding as_template
as-template template s small =
    let listed = either (λ (n : ℕ). one_of (0 ∷ numbers₃) n ≡ true) (not (agreed s)) refl refl in
    let no_place = either (λ (n : ℕ). has_place n ≡ false) (not (agreed s)) refl refl in
    template-refuses table₃ 3 (base_end template) _ (disagreement s) (total template s) s _ refl (λ h. refl) listed no_place (bad₃ template _ s) small (by-points template s)

pub refuses₃ : (s : List ℕ) → Refuses table₃ (outcome₃ s)
unfolding outcome₃
refuses₃ s =
    opening-refuses table₃ 3 14 s _ refl
    (λ small. reason-refuses table₃ 3 6 (ltb 3 (be_at s 13 2)) (as_template (template_named s) s) refl refl (as-template (template_named s) s small))

pub grid-refuses : (s : List ℕ) (x : Refusal) → told values_in (Err x) ≡ outcome₃ s → Listed table₃ x
grid-refuses s x e = refusal-listed table₃ (outcome₃ s) x (refuses₃ s) e
