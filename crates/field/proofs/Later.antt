-- A field by its parts: what sections 5 and 7 say is taken on as one answer, and its refusal is the first of those of its sections.
-- Assumes nothing.
use Prim.Native.Nat.{ℕ}
use mathlib.Core.Path.{◌≡◌, refl, ap, ◌∙◌}
use mathlib.Core.List.{List}
use Rattle.layout.specs.Fields.{Value}
use Rattle.layout.specs.Outcomes.{Outcome, refused, read, and_then, check_of}
use Rattle.identification.specs.Section1.{outcome₁}
use Rattle.grid.specs.Blocks.{values_in}
use Rattle.grid.specs.Section3.{outcome₃}
use Rattle.grid.specs.declared.blocks.Grid.{Grid}
use Rattle.product.specs.Section4.{outcome₄}
use Rattle.packing.specs.Section5.{outcome₅}
use Rattle.field.specs.Field.{FieldOutcome, read_field, onward, packed_outcome, points_at, field_outcome, packing_outcome, later_outcome, field_check}
use Rattle.field.proofs.Points.{points-are}

-- ---- sections 5 and 7

both-onward : (o next : Outcome) (then : List Value → FieldOutcome) → onward o (λ five. onward next (λ seven. then five)) ≡ onward (and_then o (and_then next o)) then
unfolding onward and_then
both-onward (refused number section place) next then = refl
both-onward (read vs) (refused number section place) then = refl
both-onward (read vs) (read ws) then = refl

pub packed-onward : (points : ℕ) (one three four : List Value) (s5 s7 : List ℕ) → packed_outcome points one three four s5 s7 ≡ onward (packing_outcome points s5 s7) (read_field one three four)
unfolding packed_outcome packing_outcome
packed-onward points one three four s5 s7 = both-onward (outcome₅ s5) _ (read_field one three four)

-- once sections 1, 3 and 4 are read
pub rest-onward : (s1 s3 s4 s5 s7 : List ℕ) (one : List Value) (x : Grid) (four : List Value) → outcome₁ s1 ≡ read one → outcome₃ s3 ≡ read (values_in x) → outcome₄ s4 ≡ read four
    → field_outcome s1 s3 s4 s5 s7 ≡ onward (packing_outcome x.points s5 s7) (read_field one (values_in x) four)
unfolding field_outcome onward
rest-onward s1 s3 s4 s5 s7 one x four first third fourth =
    simp (first, third, fourth, ← points-are s3 x third) (packed-onward x.points one (values_in x) four s5 s7)

-- ---- the refusal

then-refusal : (o : Outcome) (next : List Value → FieldOutcome) (later : Outcome) → ((vs : List Value) → field_check (next vs) ≡ check_of later) → field_check (onward o next) ≡ check_of (and_then o later)
unfolding onward and_then
then-refusal (refused number section place) next later h = refl
then-refusal (read vs) next later h = h vs

last-refusal : (o : Outcome) (next : List Value → FieldOutcome) → ((vs : List Value) → field_check (next vs) ≡ check_of (read vs)) → field_check (onward o next) ≡ check_of o
unfolding onward
last-refusal (refused number section place) next h = refl
last-refusal (read vs) next h = h vs

-- the first that refuses: section 1, section 3, or those behind
pub first-refusal : (s1 s3 s4 s5 s7 : List ℕ) → field_check (field_outcome s1 s3 s4 s5 s7) ≡ check_of (and_then (outcome₁ s1) (and_then (outcome₃ s3) (later_outcome (points_at s3) s4 s5 s7)))
unfolding field_outcome later_outcome
first-refusal s1 s3 s4 s5 s7 =
    then-refusal (outcome₁ s1) _ _
    (λ one. then-refusal (outcome₃ s3) _ _
    (λ three. then-refusal (outcome₄ s4) _ _
    (λ four. ap field_check (packed-onward (points_at s3) one three four s5 s7) ∙ last-refusal (packing_outcome (points_at s3) s5 s7) _ (λ five. refl))))
