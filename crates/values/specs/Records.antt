-- The record of a section as numbers: their count and they, in a lent row of 64-bit places.
-- Assumes nothing.
use Rattle.std.specs.Prelude.{ℕ, ◌≡◌, List, [], ◌∷◌, ◌++◌, cond, eqb, leb, ℤ, negsuc, length, Ok, Err}
use Rattle.lent.specs.Lent.{Done, done, with_count, if_room}
use Rattle.layout.specs.Fields.{Value, none, missing, is, which}
use Rattle.layout.specs.Outcomes.{Outcome, refused, read, refusal, Check}
use Rattle.identification.specs.Section1.{outcome₁}
use Rattle.grid.specs.Section3.{outcome₃}
use Rattle.product.specs.Section4.{outcome₄}
use Rattle.packing.specs.Section5.{outcome₅}
use Rattle.packing.specs.Section7.{outcome₇alone}

-- INT64_MIN stands for missing
abbrev pub missing_number : ℤ
missing_number = negsuc 9223372036854775807

-- what stands in the row for a value: nothing for a field that the template lacks, and for which part follows, which no octets say
abbrev pub in_row : Value → List ℤ
in_row none = []
in_row missing = missing_number ∷ []
in_row (is z) = z ∷ []
in_row (which n) = []

unfoldable pub numbers_in : List Value → List ℤ
numbers_in [] = []
numbers_in (v ∷ vs) = in_row v ++ numbers_in vs

-- ---- the sections

-- section 7 alone, without the N and the bits of a section 5; any other section number is 4 at once
unfoldable pub section_outcome : ℕ → List ℕ → Outcome
section_outcome section s =
    cond (eqb section 1) (outcome₁ s)
    (cond (eqb section 3) (outcome₃ s)
    (cond (eqb section 4) (outcome₄ s)
    (cond (eqb section 5) (outcome₅ s)
    (cond (eqb section 7) (outcome₇alone s)
    (refused 4 section 0)))))

-- ---- what is answered

-- the section's own refusals, then 18 where there are fewer than 64 places; each leaves the row as it was
unfoldable pub into_row : Outcome → List ℤ → Done Check (List ℤ)
into_row (refused number section place) row = done (Err (refusal number section place)) row
into_row (read vs) row = if_room (Ok tt) (Err (refusal 18 0 0)) (leb 64 (length row)) (with_count (numbers_in vs) row) row

-- ---- for the contracts of private functions

-- where a section is accepted, its record stands in the row
abbrev pub PutsRecord : Outcome → List ℤ → List ℤ → Type 0
PutsRecord o row row' = (vs : List Value) → o ≡ read vs → row' ≡ with_count (numbers_in vs) row
