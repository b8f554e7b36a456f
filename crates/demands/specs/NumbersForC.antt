-- With which of document 01's numbers an entry for C refuses: those of what it calls, 18 where there is no room, and 19 for a number. (Of
-- `skogmund_read`: `read_table`, `values/specs/Refused.antt`.)
-- Assumes nothing.
use Rattle.std.specs.Prelude.{ℕ, ◌≡◌, ◌⊎◌, Bool, true, ◌&&◌, List, [], ◌∷◌, leb}
use Rattle.layout.specs.declared.Refusal.{Refusal}
use Rattle.layout.specs.Refusals.{Row, row, Listed}
use Rattle.field.specs.Refused.{field_table}
use Rattle.filing.specs.Refused.{filed_rows}
use Rattle.skogmund.specs.Entries.{code_of}

-- none, or a refusal that the table lists
abbrev pub Answers : List Row → ℕ → Type 0
Answers table answer = (answer ≡ 0) ⊎ ((x : Refusal) × (answer ≡ code_of x) × Listed table x)

-- each section of a table is one octet
abbrev pub octet_sections : List Row → Bool
octet_sections [] = true
octet_sections (r ∷ rs) = leb r.section 255 && octet_sections rs

abbrev pub room_table : List Row
room_table = row 0 (18 ∷ []) ∷ []

-- 2 and 22 to 25 are the frame's, and then a field's
abbrev pub message_for_c_table : List Row
message_for_c_table = row 0 (2 ∷ 18 ∷ 22 ∷ 23 ∷ 24 ∷ 25 ∷ []) ∷ field_table

abbrev pub slot_table : List Row
slot_table = row 0 (16 ∷ 18 ∷ []) ∷ []

abbrev pub file_table : List Row
file_table = row 0 (16 ∷ 18 ∷ 19 ∷ []) ∷ filed_rows

abbrev pub file_queue_table : List Row
file_queue_table = row 0 (2 ∷ 18 ∷ 19 ∷ []) ∷ []
