-- With which of document 01's numbers sections 5 and 7 are refused, and unpacking them.
-- Assumes nothing.
use Rattle.std.specs.Prelude.{ℕ, List, [], ◌∷◌}
use Rattle.layout.specs.Refusals.{Row, row, head_numbers, shared_numbers}

abbrev pub numbers₅ : List ℕ
numbers₅ = shared_numbers

abbrev pub numbers₇ : List ℕ
numbers₇ = 15 ∷ head_numbers

abbrev pub table₅ : List Row
table₅ = row 5 numbers₅ ∷ []

abbrev pub table₇ : List Row
table₇ = row 7 numbers₇ ∷ []

abbrev pub unpack_table : List Row
unpack_table = row 5 numbers₅ ∷ row 7 numbers₇ ∷ row 0 (18 ∷ []) ∷ []
