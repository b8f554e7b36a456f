-- A whole field: sections 1, 3, 4, 5 (with 14) and 7, by their own outcomes. The first refusal is the field's.
-- Assumes nothing.
use Rattle.std.specs.Prelude.{ℕ, List, [], ◌∷◌, not, eqb, Result, Ok, Err}
use Rattle.octets.specs.Octets.{be_at}
use Rattle.layout.specs.Fields.{Value}
use Rattle.layout.specs.Outcomes.{Outcome, refused, read, and_then, reason, first_of, no_refusal, refusal, Check}
use Rattle.identification.specs.Section1.{outcome₁, values_in as values_in₁}
use Rattle.grid.specs.Blocks.{values_in as values_in₃}
use Rattle.grid.specs.Section3.{outcome₃}
use Rattle.product.specs.Blocks.{values_in as values_in₄}
use Rattle.product.specs.Section4.{outcome₄}
use Rattle.packing.specs.Section5.{outcome₅, values_at, bits_at, values_in₅}
use Rattle.packing.specs.Section7.{outcome₇}
use Rattle.layout.specs.declared.Refusal.{Refusal}
use Rattle.field.specs.declared.WholeField.{WholeField}

-- a refusal's number, section and place, or the values of the four records
pub data FieldOutcome : Type 0 where
  refused_field : ℕ → ℕ → ℕ → FieldOutcome
  read_field : List Value → List Value → List Value → List Value → FieldOutcome

-- what a section says is taken on, or its refusal handed on
unfoldable pub onward : Outcome → (List Value → FieldOutcome) → FieldOutcome
onward (refused number section place) next = refused_field number section place
onward (read vs) next = next vs

-- sections 5 and 7 of a field with so many points, once the others are read: 14 is N against the points
unfoldable pub packed_outcome : ℕ → List Value → List Value → List Value → List ℕ → List ℕ → FieldOutcome
packed_outcome points one three four s5 s7 =
    onward (outcome₅ s5)
    (λ five. onward
    (first_of 5 (reason 14 (not (eqb (values_at s5) points)) ∷ []) (outcome₇ (values_at s5) (bits_at s5) s7))
    (λ seven. read_field one three four five))

-- section 3's number of points
abbrev pub points_at : List ℕ → ℕ
points_at s3 = be_at s3 7 4

unfoldable pub field_outcome : List ℕ → List ℕ → List ℕ → List ℕ → List ℕ → FieldOutcome
field_outcome s1 s3 s4 s5 s7 =
    onward (outcome₁ s1)
    (λ one. onward (outcome₃ s3)
    (λ three. onward (outcome₄ s4)
    (λ four. packed_outcome (points_at s3) one three four s5 s7)))

-- ---- a part of a field

-- what section 5 of a field with so many points says, unless it is refused, by 14 too, or section 7 is
unfoldable pub packing_outcome : ℕ → List ℕ → List ℕ → Outcome
packing_outcome points s5 s7 =
    and_then (outcome₅ s5)
    (and_then (first_of 5 (reason 14 (not (eqb (values_at s5) points)) ∷ []) (outcome₇ (values_at s5) (bits_at s5) s7)) (outcome₅ s5))

-- sections 4, 5 and 7 of a field with so many points, whose sections 1 and 3 are read
unfoldable pub later_outcome : ℕ → List ℕ → List ℕ → List ℕ → Outcome
later_outcome points s4 s5 s7 = and_then (outcome₄ s4) (packing_outcome points s5 s7)

-- the check of a field's outcome: passed where it is read
abbrev pub field_check : FieldOutcome → Check
field_check (refused_field number section place) = Err (refusal number section place)
field_check (read_field one three four five) = Ok tt

-- ---- what a program's answer says

unfoldable pub told : Result WholeField Refusal → FieldOutcome
told (Ok x) =
    read_field (values_in₁ x.identification) (values_in₃ x.grid) (values_in₄ x.product) (values_in₅ x.packing)
told (Err x) = refused_field x.number x.section x.place

-- the refusal of an outcome and of an answer, all 0 where it is read
abbrev pub field_refusal : FieldOutcome → Refusal
field_refusal (refused_field number section place) = refusal number section place
field_refusal (read_field one three four five) = no_refusal

abbrev pub refusal_in : Result WholeField Refusal → Refusal
refusal_in (Err x) = x
refusal_in (Ok x) = no_refusal
