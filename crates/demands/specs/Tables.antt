-- Every table of refusals that theorems of demand 1 cite, those of the entries for C among them; and what it means that none lists a given number.
-- Assumes nothing.
use Rattle.std.specs.Prelude.{ℕ, ◌≡◌, List, [], ◌∷◌}
use Rattle.layout.specs.Refusals.{Row, row, Listed, head_numbers, opening_numbers}
use Rattle.layout.specs.declared.Refusal.{Refusal}
use Rattle.identification.specs.Refused.{table₁}
use Rattle.grid.specs.Refused.{table₃}
use Rattle.product.specs.Refused.{table₄}
use Rattle.packing.specs.Refused.{table₅, table₇, unpack_table}
use Rattle.field.specs.Refused.{field_table}
use Rattle.message.specs.Refused.{message_table}
use Rattle.filing.specs.Refused.{filing_table}
use Rattle.queue.specs.Refused.{record_table, queue_table}
use Rattle.values.specs.Refused.{read_table}
use Rattle.demands.specs.NumbersForC.{room_table, message_for_c_table, slot_table, file_table, file_queue_table}

-- the first five go by the section that is asked for: what reads it, its head, its opening, a field of it (`field-told`) and its total (`total-told`);
-- the table of `fitting-told` has the number that a caller names, and is not among these
abbrev pub tables : ℕ → List (List Row)
tables asked =
    read_table asked
    ∷ (row asked head_numbers ∷ [])
    ∷ (row asked opening_numbers ∷ [])
    ∷ (row asked (8 ∷ []) ∷ [])
    ∷ (row asked (11 ∷ 21 ∷ []) ∷ [])
    ∷ table₁
    ∷ table₃
    ∷ table₄
    ∷ table₅
    ∷ table₇
    ∷ unpack_table
    ∷ field_table
    ∷ message_table
    ∷ filing_table
    ∷ record_table
    ∷ queue_table
    ∷ room_table
    ∷ message_for_c_table
    ∷ slot_table
    ∷ file_table
    ∷ file_queue_table
    ∷ []

-- no refusal that one of these tables lists has this number
abbrev pub NoneLists : ℕ → List (List Row) → Type 0
NoneLists number [] = Unit {0}
NoneLists number (table ∷ rest) = ((x : Refusal) → Listed table x → x.number ≡ number → ⊥) × NoneLists number rest
