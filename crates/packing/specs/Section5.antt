-- Section 5, as document 01 has it: its fields, its outcome, and what a program's record says.
-- Assumes nothing.
use Rattle.std.specs.Prelude.{ℕ, List, [], ◌∷◌, not, eqb}
use Rattle.octets.specs.Octets.{be_at}
use Rattle.layout.specs.Fields.{Value, is, plain, Field, raw, raw_signed, ranged, after, bad_place, values_of}
use Rattle.layout.specs.Outcomes.{Outcome, read, reason, first_of, opening_reasons, template_reasons}
use Rattle.packing.specs.declared.Packing.{Packing}

-- length, number, number of values N, template, R as bits, E, D, bits per value, type
unfoldable pub fields₅ : List Field
fields₅ = raw 4 ∷ raw 1 ∷ raw 4 ∷ raw 2 ∷ raw 4 ∷ raw_signed 2 ∷ raw_signed 2 ∷ ranged 1 0 32 ∷ raw 1 ∷ []

-- N and the bits per value, where they stand
abbrev pub values_at : List ℕ → ℕ
values_at s = be_at s 6 4

abbrev pub bits_at : List ℕ → ℕ
bits_at s = be_at s 20 1

-- 7, 8 and the total's 21, once the template is known; 7 leaves nothing to 11
unfoldable pub as_simple : List ℕ → Outcome
as_simple s = first_of 5 (template_reasons 21 (bad_place (after 0 fields₅) s) 0 21 s) (read (values_of (after 0 fields₅) s))

-- 5: under 11 octets; 6: the template is not 0
unfoldable pub outcome₅ : List ℕ → Outcome
outcome₅ s = first_of 5 (opening_reasons 5 11 s) (first_of 5 (reason 6 (not (eqb (be_at s 10 2) 0)) ∷ []) (as_simple s))

-- ---- what a program's record says

unfoldable pub values_in₅ : Packing → List Value
values_in₅ x =
    plain x.length
    ∷ plain x.number
    ∷ plain x.values
    ∷ plain x.template
    ∷ plain x.reference
    ∷ is x.binary_scale
    ∷ is x.decimal_scale
    ∷ plain x.bits
    ∷ plain x.value_type
    ∷ []
