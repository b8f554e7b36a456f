-- With which of document 01's numbers a section 1 is refused.
-- Assumes nothing.
use Rattle.std.specs.Prelude.{ℕ, List, [], ◌∷◌}
use Rattle.layout.specs.Refusals.{Row, row, shared_numbers}

abbrev pub numbers₁ : List ℕ
numbers₁ = shared_numbers

abbrev pub table₁ : List Row
table₁ = row 1 numbers₁ ∷ []
