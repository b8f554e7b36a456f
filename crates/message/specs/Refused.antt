-- With which numbers a message is refused: 2 and 22 to 25 by its frame, of section 0; then those of a field.
-- Assumes nothing.
use Rattle.std.specs.Prelude.{◌≡◌, ◌⊎◌, List, [], ◌∷◌}
use Rattle.layout.specs.Outcomes.{no_refusal}
use Rattle.layout.specs.Refusals.{Row, row, Listed}
use Rattle.field.specs.Refused.{field_table}
use Rattle.message.specs.Walk.{Cut}
use Rattle.message.specs.Walk.{refused_with}
use Rattle.message.specs.Messages.{Accepted}

abbrev pub frame_row : Row
frame_row = row 0 (2 ∷ 22 ∷ 23 ∷ 24 ∷ 25 ∷ [])

abbrev pub frame_table : List Row
frame_table = frame_row ∷ []

abbrev pub message_table : List Row
message_table = frame_row ∷ field_table

-- fields are found and nothing is refused, or it is refused as a table lists and has no fields
abbrev pub Decided : List Row → Cut → Type 0
Decided table c = (Accepted c × (c.refusal ≡ no_refusal)) ⊎ ((c ≡ refused_with c.refusal) × Listed table c.refusal)
