-- A refusal of a field has a number, a section and a place as document 01 has them.
-- Assumes nothing.
use Prim.Native.Nat.{ℕ}
use mathlib.Core.Path.{◌≡◌, refl, sym, subst}
use mathlib.Core.List.{List}
use mathlib.Core.Bool.{true, not}
use native.Mathlib.Omega.{arith}
use lib.Dec.{eqb}
use Rattle.layout.specs.Fields.{Value}
use Rattle.layout.specs.Outcomes.{Outcome, refused, read, refusal, first_of}
use Rattle.layout.specs.Refusals.{Row, Listed}
use Rattle.layout.specs.declared.Refusal.{Refusal}
use Rattle.layout.proofs.Outcomes.{either}
use Rattle.layout.proofs.Refusals.{Refuses, within, refuses-wider}
use Rattle.identification.specs.Section1.{outcome₁}
use Rattle.identification.specs.Refused.{table₁}
use Rattle.identification.proofs.RefusalNumbers.{refuses₁}
use Rattle.grid.specs.Section3.{outcome₃}
use Rattle.grid.specs.Refused.{table₃}
use Rattle.grid.proofs.RefusalNumbers.{refuses₃}
use Rattle.product.specs.Section4.{outcome₄}
use Rattle.product.specs.Refused.{table₄}
use Rattle.product.proofs.RefusalNumbers.{refuses₄}
use Rattle.packing.specs.Section5.{outcome₅, values_at, bits_at}
use Rattle.packing.specs.Section7.{outcome₇}
use Rattle.packing.specs.Refused.{table₅, table₇}
use Rattle.packing.proofs.RefusalNumbers.{refuses₅, refuses₇}
use Rattle.field.specs.Field.{FieldOutcome, refused_field, read_field, onward, packed_outcome, points_at, field_outcome, told}
use Rattle.field.specs.Refused.{field_table}
use Rattle.std.specs.Prelude.{Err}

-- ---- what is said of a refusal's number, section and place, of an outcome that is one

abbrev pub OfSection : (ℕ → ℕ → ℕ → Type 0) → Outcome → Type 0
OfSection P (refused number section place) = P number section place
OfSection P (read vs) = Unit {0}

abbrev pub OfField : (ℕ → ℕ → ℕ → Type 0) → FieldOutcome → Type 0
OfField P (refused_field number section place) = P number section place
OfField P (read_field one three four five) = Unit {0}

pub onward-of : (P : ℕ → ℕ → ℕ → Type 0) (o : Outcome) (next : List Value → FieldOutcome) → OfSection P o → ((vs : List Value) → OfField P (next vs)) → OfField P (onward o next)
unfolding onward
onward-of P (refused number section place) next p q = p
onward-of P (read vs) next p q = q vs

-- what holds of each section's, and of 14, holds of the field's
pub field-of : (P : ℕ → ℕ → ℕ → Type 0) (s1 s3 s4 s5 s7 : List ℕ) → OfSection P (outcome₁ s1) → OfSection P (outcome₃ s3) → OfSection P (outcome₄ s4) → OfSection P (outcome₅ s5) → P 14 5 0
    → OfSection P (outcome₇ (values_at s5) (bits_at s5) s7) → OfField P (field_outcome s1 s3 s4 s5 s7)
unfolding field_outcome packed_outcome first_of
field-of P s1 s3 s4 s5 s7 first third fourth fifth fourteen seventh =
    onward-of P (outcome₁ s1) _ first
    (λ one. onward-of P (outcome₃ s3) _ third
    (λ three. onward-of P (outcome₄ s4) _ fourth
    (λ four. onward-of P (outcome₅ s5) _ fifth
    (λ five. onward-of P _ _ (either (OfSection P) (not (eqb (values_at s5) (points_at s3))) {x = refused 14 5 0} {y = outcome₇ (values_at s5) (bits_at s5) s7} fourteen seventh)
    (λ vs. tt)))))

-- ---- it is listed

abbrev IsListed : ℕ → ℕ → ℕ → Type 0
IsListed number section place = Listed field_table (refusal number section place)

abbrev pub RefusesField : FieldOutcome → Type 0
RefusesField = OfField IsListed

-- a section's own table is within the field's
by-table : (table : List Row) (o : Outcome) → within field_table table ≡ true → Refuses table o → OfSection IsListed o
by-table table (refused number section place) w r = refuses-wider field_table table (refused number section place) w r
by-table table (read vs) w r = tt

pub refuses-field : (s1 s3 s4 s5 s7 : List ℕ) → RefusesField (field_outcome s1 s3 s4 s5 s7)
refuses-field s1 s3 s4 s5 s7 =
    field-of IsListed s1 s3 s4 s5 s7
    (by-table table₁ (outcome₁ s1) refl (refuses₁ s1)) (by-table table₃ (outcome₃ s3) refl (refuses₃ s3))
    (by-table table₄ (outcome₄ s4) refl (refuses₄ s4)) (by-table table₅ (outcome₅ s5) refl (refuses₅ s5))
    (record { listed = refl; placed = record { given = refl; within = omega arith } })
    (by-table table₇ (outcome₇ (values_at s5) (bits_at s5) s7) refl (refuses₇ (values_at s5) (bits_at s5) s7))

pub field-refuses : (s1 s3 s4 s5 s7 : List ℕ) (x : Refusal) → told (Err x) ≡ field_outcome s1 s3 s4 s5 s7 → Listed field_table x
unfolding told
field-refuses s1 s3 s4 s5 s7 x e = subst (λ (o : FieldOutcome). RefusesField o) (sym e) (refuses-field s1 s3 s4 s5 s7)
