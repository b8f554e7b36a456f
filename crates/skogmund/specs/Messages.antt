-- Where the sections of a message's fields stand, as C is told it.
-- Assumes nothing.
use Rattle.std.specs.Prelude.{ℕ, ◌≤◌, Bool, cond, ◌&&◌, List, [], ◌∷◌, eqb, ltb, leb, length}
use Rattle.lent.specs.Lent.{Done, done_both, over, if_room}
use Rattle.lent.specs.Rows.{in_turn}
use Rattle.message.specs.declared.Sections.{Sections}
use Rattle.message.specs.Walk.{Cut}
use Rattle.message.specs.Messages.{field_of, read_message}
use Rattle.message.specs.Places.{LowField}
use Rattle.skogmund.specs.Entries.{code_of, no_room}
use Rattle.skogmund.specs.Parts.{first_octet}

-- sections 1, 3, 4, 5 and 7 of a field: of each the first octet, where the message's first is octet 1, and the length
abbrev pub field_spans : Sections → List ℕ
field_spans f =
    first_octet f.one
    ∷ f.one.length
    ∷ first_octet f.three
    ∷ f.three.length
    ∷ first_octet f.four
    ∷ f.four.length
    ∷ first_octet f.five
    ∷ f.five.length
    ∷ first_octet f.seven
    ∷ f.seven.length
    ∷ []

-- field after field
unfoldable pub spans_of : Cut → List ℕ
spans_of c = in_turn (λ (k : ℕ). field_spans (field_of c k)) 0 c.count

-- places for the spans of 16 fields, and one for the count
abbrev pub room_for : List ℕ → List ℕ → Bool
room_for spans places = leb 160 (length spans) && ltb 0 (length places)

-- the spans and how many fields there are, if there is room
abbrev pub fields_told : Cut → List ℕ → List ℕ → Done ℕ (List ℕ × List ℕ)
fields_told c spans places =
    if_room 0 no_room (room_for spans places) (over spans (spans_of c), over places (c.count ∷ [])) (spans, places)

-- or a refusal
unfoldable pub message_told : List ℕ → List ℕ → List ℕ → Done ℕ (List ℕ × List ℕ)
message_told m spans places =
    let c = read_message m in
    cond (eqb c.refusal.number 0) (fields_told c spans places) (done_both (code_of c.refusal) spans places)

-- for the code: no more fields than there are places for, and places that have a number
pub record Tellable (c : Cut) : Type 0 where
  pub few : c.count ≤ 16
  pub low : (k : ℕ) → LowField (field_of c k)
