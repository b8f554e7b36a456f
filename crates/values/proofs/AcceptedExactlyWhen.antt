-- A section that is asked for by its number is accepted exactly when it follows; what is read out are then the values of its fields.
-- Assumes nothing.
use Prim.Native.Nat.{ℕ}
use native.Mathlib.Omega.{arith}
use mathlib.Core.Path.{◌≡◌, refl, ap, subst⁻¹, ◌∙◌}
use mathlib.Core.Logic.{◌↔◌}
use mathlib.Core.Bool.{Bool, true, false, cond}
use mathlib.Core.List.{List, [], ◌∷◌}
use lib.Dec.{eqb}
use borrow.Author.Tests.{ne_eqb, eqb-true, eqb-false}
use Rattle.layout.specs.Fields.{Value}
use Rattle.layout.specs.Outcomes.{Outcome, refused, read}
use Rattle.layout.specs.Refusals.{row}
use Rattle.identification.specs.Section1.{outcome₁}
use Rattle.identification.proofs.AcceptedExactlyWhen.{accepted-follows as follows₁, follows-accepted as accepted₁}
use Rattle.grid.specs.Section3.{outcome₃}
use Rattle.grid.proofs.AcceptedExactlyWhen.{accepted-follows as follows₃, follows-accepted as accepted₃}
use Rattle.product.specs.Section4.{outcome₄}
use Rattle.product.proofs.AcceptedExactlyWhen.{accepted-follows as follows₄, follows-accepted as accepted₄}
use Rattle.packing.specs.Section5.{outcome₅}
use Rattle.packing.specs.Section7.{outcome₇alone}
use Rattle.packing.specs.Accepted.{Follows₅, Follows₇alone}
use Rattle.packing.proofs.AcceptedExactlyWhen.{accepted-follows₅, follows-accepted₅, accepted-follows₇alone, follows-accepted₇alone}
use Rattle.values.specs.Refused.{read_table}
use Rattle.values.specs.Records.{section_outcome}
use Rattle.values.specs.Accepted.{FollowsNumbered, section-1, section-3, section-4, section-5, section-7, values_numbered}

-- by the number that is asked for: one of five, or another
by_number : (P : ℕ → Outcome → Type 0) (n k : ℕ) (a b : Outcome) → P k a → ((n ≡ k → ⊥) → P n b) → P n (cond (eqb n k) a b)
by_number P n k a b p q = by (eqb n k) refl
  where
    by : (t : Bool) → eqb n k ≡ t → P n (cond t a b)
    by true e = subst⁻¹ (λ (m : ℕ). P m a) (eqb-true n k e) p
    by false e = q (eqb-false n k e)

pub each-section : (P : ℕ → Outcome → Type 0) (s : List ℕ) → P 1 (outcome₁ s) → P 3 (outcome₃ s) → P 4 (outcome₄ s) → P 5 (outcome₅ s) → P 7 (outcome₇alone s)
    → ((n : ℕ) → read_table n ≡ (row n (4 ∷ []) ∷ []) → P n (refused 4 n 0)) → (n : ℕ) → P n (section_outcome n s)
unfolding section_outcome
each-section P s one three four five seven other n =
    by_number P n 1 _ _ one
    (λ a. by_number P n 3 _ _ three
    (λ b. by_number P n 4 _ _ four
    (λ c. by_number P n 5 _ _ five
    (λ d. by_number P n 7 _ _ seven (λ e. other n (rw (ne_eqb _ _ a, ne_eqb _ _ b, ne_eqb _ _ c, ne_eqb _ _ d, ne_eqb _ _ e)))))))

-- ---- accepted, so it follows

pub accepted-follows : (section : ℕ) (s : List ℕ) (vs : List Value) → section_outcome section s ≡ read vs → (f : FollowsNumbered section s) × (vs ≡ values_numbered section s f)
unfolding values_numbered
accepted-follows section s =
    each-section (λ n o. (vs : List Value) → o ≡ read vs → (f : FollowsNumbered n s) × (vs ≡ values_numbered n s f)) s
    (λ vs e. let a = follows₁ s vs e in (section-1 refl a.0 a.1, a.2))
    (λ vs e. let a = follows₃ s vs e in (section-3 refl a.0 a.1, a.2))
    (λ vs e. let a = follows₄ s vs e in (section-4 refl a.0 a.1, a.2))
    (λ vs e. let a = accepted-follows₅ s vs e in (section-5 refl a.0, a.1))
    (λ vs e. let a = accepted-follows₇alone s vs e in (section-7 refl a.0, a.1))
    (λ n t vs e. let z : ◌≡◌ {A = ℕ} 0 1 = cc in absurd (omega arith)) section

-- ---- it follows, so it is accepted

pub follows-accepted : (section : ℕ) (s : List ℕ) (f : FollowsNumbered section s) → section_outcome section s ≡ read (values_numbered section s f)
unfolding section_outcome values_numbered
follows-accepted section s (section-1 e template f) = ap (λ (n : ℕ). section_outcome n s) e ∙ accepted₁ template s f
follows-accepted section s (section-3 e template f) = ap (λ (n : ℕ). section_outcome n s) e ∙ accepted₃ template s f
follows-accepted section s (section-4 e row f) = ap (λ (n : ℕ). section_outcome n s) e ∙ accepted₄ row s f
follows-accepted section s (section-5 e f) = ap (λ (n : ℕ). section_outcome n s) e ∙ follows-accepted₅ s f
follows-accepted section s (section-7 e f) = ap (λ (n : ℕ). section_outcome n s) e ∙ follows-accepted₇alone s f

-- ---- of sections 5 and 7, which have one template

pub numbered-5 : (s : List ℕ) → FollowsNumbered 5 s ↔ Follows₅ s
unfolding section_outcome
numbered-5 s = ((λ f. (accepted-follows₅ s _ (follows-accepted 5 s f)).0), section-5 refl)

pub numbered-7 : (s : List ℕ) → FollowsNumbered 7 s ↔ Follows₇alone s
unfolding section_outcome
numbered-7 s = ((λ f. (accepted-follows₇alone s _ (follows-accepted 7 s f)).0), section-7 refl)
