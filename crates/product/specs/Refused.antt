-- With which of document 01's numbers a section 4 is refused.
-- Assumes nothing.
use Rattle.std.specs.Prelude.{ℕ, List, [], ◌∷◌}
use Rattle.layout.specs.Refusals.{Row, row, shared_numbers}

abbrev pub numbers₄ : List ℕ
numbers₄ = 9 ∷ 11 ∷ shared_numbers

abbrev pub table₄ : List Row
table₄ = row 4 numbers₄ ∷ []
