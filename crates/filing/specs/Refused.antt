-- With which of document 01's numbers filing a field is refused.
-- Assumes nothing.
use Rattle.std.specs.Prelude.{List, [], ◌∷◌}
use Rattle.layout.specs.Refusals.{Row, row}
use Rattle.identification.specs.Refused.{numbers₁}
use Rattle.field.specs.Refused.{later_rows}

-- the five sections of a field that is filed; 17 is section 1's
abbrev pub filed_rows : List Row
filed_rows = row 1 (17 ∷ numbers₁) ∷ later_rows

abbrev pub filing_table : List Row
filing_table = row 0 (16 ∷ []) ∷ filed_rows
