-- With which of document 01's numbers a field is refused.
-- Assumes nothing.
use Rattle.std.specs.Prelude.{List, [], ◌∷◌}
use Rattle.layout.specs.Refusals.{Row, row}
use Rattle.identification.specs.Refused.{numbers₁}
use Rattle.grid.specs.Refused.{numbers₃}
use Rattle.product.specs.Refused.{numbers₄}
use Rattle.packing.specs.Refused.{numbers₅, numbers₇}

-- sections 3, 4, 5 and 7 of a field; 14 is section 5's, in a field alone
abbrev pub later_rows : List Row
later_rows = row 3 numbers₃ ∷ row 4 numbers₄ ∷ row 5 (14 ∷ numbers₅) ∷ row 7 numbers₇ ∷ []

abbrev pub field_table : List Row
field_table = row 1 numbers₁ ∷ later_rows
