-- With which of document 01's numbers a section 3 is refused.
-- Assumes nothing.
use Rattle.std.specs.Prelude.{ℕ, List, [], ◌∷◌}
use Rattle.layout.specs.Refusals.{Row, row, shared_numbers}

abbrev pub numbers₃ : List ℕ
numbers₃ = 10 ∷ 11 ∷ 13 ∷ shared_numbers

abbrev pub table₃ : List Row
table₃ = row 3 numbers₃ ∷ []
