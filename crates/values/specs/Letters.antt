-- A template's fields as a word, a letter for each field that has octets: how many octets, and how they are read. Only the contracts of
-- private functions cite this; what a caller is told is in Records.
-- Assumes nothing.
use Rattle.std.specs.Prelude.{ℕ, ◌+◌, List, [], ◌∷◌, cond, eqb, ℤ, pos}
use Rattle.octets.specs.Octets.{be_at}
use Rattle.layout.specs.Fields.{Value, none, missing, is, which, Meaning, unsigned, signed, or_missing, means}
use Rattle.values.specs.Records.{missing_number}

pub record Kind : Type 0 where
  pub octets : ℕ
  pub meaning : Meaning

abbrev pub kind : ℕ → Meaning → Kind
kind octets meaning = record { octets = octets; meaning = meaning }

-- 1, 2, 4: unsigned; b, d: signed, of 2 and 4 octets; A, D: signed or missing, of 1 and 4; Q, R, and T for every other: unsigned or missing,
-- of 1, 2 and 4
unfoldable pub kind_of : ℕ → Kind
kind_of letter =
    cond (eqb letter 49) (kind 1 unsigned)
    (cond (eqb letter 50) (kind 2 unsigned)
    (cond (eqb letter 52) (kind 4 unsigned)
    (cond (eqb letter 98) (kind 2 signed)
    (cond (eqb letter 100) (kind 4 signed)
    (cond (eqb letter 65) (kind 1 (or_missing signed))
    (cond (eqb letter 68) (kind 4 (or_missing signed))
    (cond (eqb letter 81) (kind 1 (or_missing unsigned))
    (cond (eqb letter 82) (kind 2 (or_missing unsigned))
    (kind 4 (or_missing unsigned))))))))))

-- the number that stands for a value; octets never say `none` or `which`
abbrev pub row_number : Value → ℤ
row_number none = pos 0
row_number missing = missing_number
row_number (is z) = z
row_number (which n) = pos 0

-- the number of the field from octet `at` on
abbrev pub number_by : Kind → ℕ → List ℕ → ℤ
number_by k at s = row_number (means k.meaning k.octets (be_at s at k.octets))

-- the numbers of fields one after the other, the first from octet `at` on
unfoldable pub numbers_by : List ℕ → ℕ → List ℕ → List ℤ
numbers_by [] at s = []
numbers_by (l ∷ ls) at s = number_by (kind_of l) at s ∷ numbers_by ls (at + (kind_of l).octets) s
