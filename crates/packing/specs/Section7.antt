-- Section 7, as document 01 has it: alone, and for N values of some bits each.
-- Assumes nothing.
use Rattle.std.specs.Prelude.{ℕ, ◌+◌, ◌*◌, ◌/◌, List, [], ◌∷◌, not, length, eqb}
use Rattle.octets.specs.Octets.{be_at}
use Rattle.layout.specs.Fields.{Value, plain, Field, raw, shown, after, values_of}
use Rattle.layout.specs.Outcomes.{Outcome, read, Reason, reason, first_of, head_reasons}
use Rattle.packing.specs.declared.DataSection.{DataSection}

-- N x bits / 8, rounded up
abbrev pub packed_octets : ℕ → ℕ → ℕ
packed_octets n bits = (n * bits + 7) / 8

-- length, number, and the rest as it is, so many octets
unfoldable pub fields₇alone : ℕ → List Field
fields₇alone rest = raw 4 ∷ raw 1 ∷ shown rest ∷ []

-- the rest are the packed values
abbrev pub fields₇ : ℕ → ℕ → List Field
fields₇ n bits = fields₇alone (packed_octets n bits)

-- what is read out: the length and the number
abbrev pub values₇ : List ℕ → List Value
values₇ s = plain (be_at s 1 4) ∷ plain (be_at s 5 1) ∷ []

-- alone, without the N and the bits of a section 5, a section 7 can be refused with 1 to 4 only
unfoldable pub outcome₇alone : List ℕ → Outcome
outcome₇alone s = first_of 7 (head_reasons 7 s) (read (values₇ s))

abbrev pub reasons₇ : ℕ → ℕ → List ℕ → List Reason
reasons₇ n bits s = reason 15 (not (eqb (length s) (5 + packed_octets n bits))) ∷ []

unfoldable pub outcome₇ : ℕ → ℕ → List ℕ → Outcome
outcome₇ n bits s =
    first_of 7 (head_reasons 7 s) (first_of 7 (reasons₇ n bits s) (read (values_of (after 0 (fields₇ n bits)) s)))

-- ---- what a program's record says

unfoldable pub values_in₇ : DataSection → List Value
values_in₇ x = plain x.length ∷ plain x.number ∷ []
