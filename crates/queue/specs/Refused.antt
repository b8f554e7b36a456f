-- With which of document 01's numbers a record of a queue is refused, and a whole queue.
-- Assumes nothing.
use Rattle.std.specs.Prelude.{List, [], ◌∷◌}
use Rattle.layout.specs.Refusals.{Row, row}
use Rattle.filing.specs.Refused.{filed_rows}

abbrev pub record_table : List Row
record_table = row 0 (16 ∷ 20 ∷ []) ∷ filed_rows

abbrev pub queue_table : List Row
queue_table = row 0 (2 ∷ 19 ∷ []) ∷ []
