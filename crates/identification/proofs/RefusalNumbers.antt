-- A refusal of section 1 has a number and a place as document 01 has them.
-- Assumes nothing.
use Prim.Native.Nat.{ℕ, zero, suc, ◌≤◌}
use native.Mathlib.Omega.{arith}
use mathlib.Core.Path.{◌≡◌, refl}
use mathlib.Core.List.{List}
use mathlib.Core.Bool.{true}
use lib.ListN.{length, drop}
use lib.Dec.{eqb}
use Rattle.octets.specs.Octets.{be_at}
use Rattle.layout.specs.Fields.{placed, after, bad_place}
use Rattle.layout.specs.Outcomes.{read, told}
use Rattle.layout.specs.Refusals.{Listed}
use Rattle.layout.specs.Time.{time}
use Rattle.layout.specs.declared.Refusal.{Refusal}
use Rattle.layout.proofs.Outcomes.{either}
use Rattle.layout.proofs.Refusals.{Refuses, refusal-listed, placeless, reason-refuses, opening-refuses, template-refuses, stand_within, bad-within}
use Rattle.identification.specs.Section1.{fields₁, origin, status_and_type, total, values₁, as_template, by_number, by_template, values_in, outcome₁}
use Rattle.identification.specs.Refused.{table₁}
use Rattle.std.specs.Prelude.{Err}
use Rattle.identification.specs.declared.Template.{Template}
use Rattle.identification.specs.declared.Template.TheVariants.{None as no_template, Calendar, Offset, CalendarAndOffset}

-- the fields with a rule stand within the total
pub within₁ : (template : Template) → stand_within (total template) (placed 0 5 (drop 1 (fields₁ template))) ≡ true
unfolding stand_within placed fields₁ origin status_and_type time
within₁ no_template = refl
within₁ Calendar = refl
within₁ Offset = refl
within₁ CalendarAndOffset = refl

-- so the lowest bad field starts there
bad₁ : (template : Template) (s : List ℕ) → bad_place (after 0 (fields₁ template)) s ≤ total template
unfolding fields₁ origin
bad₁ template s = bad-within (total template) (drop 1 (fields₁ template)) s (within₁ template)

module _ (s : List ℕ) (small : length s ≤ 65536) where
  as-template : (template : Template) → Refuses table₁ (as_template template s)
  unfolding as_template
  as-template template =
      template-refuses table₁ 1 (total template) _ 0 (total template) s (read (values₁ template s)) refl (λ h. absurd (omega (arith, h))) refl refl (bad₁ template s) small tt

  by_each_number : (n : ℕ) → Refuses table₁ (by_number n s)
  unfolding by_number
  by_each_number zero = as-template Calendar
  by_each_number (suc zero) = as-template Offset
  by_each_number (suc (suc zero)) = as-template CalendarAndOffset
  by_each_number (suc (suc (suc n))) = placeless table₁ 6 1 refl refl

pub refuses₁ : (s : List ℕ) → Refuses table₁ (outcome₁ s)
unfolding outcome₁ by_template
refuses₁ s =
    opening-refuses table₁ 1 21 s _ refl
    (λ small. reason-refuses table₁ 1 5 (eqb (length s) 22) (by_template s) refl refl
    (either (Refuses table₁) (eqb (length s) 21) (as-template s small no_template) (by_each_number s small (be_at s 22 2))))

pub identification-refuses : (s : List ℕ) (x : Refusal) → told values_in (Err x) ≡ outcome₁ s → Listed table₁ x
identification-refuses s x e = refusal-listed table₁ (outcome₁ s) x (refuses₁ s) e
