-- What a shelf holds: slots in an order of their own, in which an empty slot is below each that holds a card.
-- Assumes nothing.
use Rattle.std.specs.Prelude.{Bool, ◌&&◌, ℕ, ℤ, ltb, get_or, set, replicate, Option, Some, None}
use mathlib.Core.List.{List, [], zip_with}
use Rattle.std.specs.Int.Signed.{lt_z}
use Rattle.card.specs.declared.Card.{Card}
use Rattle.card.specs.Order.{lex, max_of}
use Rattle.card.specs.Key.{key_of}
use Rattle.shelf.specs.declared.Shelf.{Shelf}
use Rattle.shelf.specs.declared.PutDone.{PutDone}

-- a slot holds a card, or none
abbrev pub Slot : Type 0
Slot = Option Card

-- what slots are compared by: of an empty slot nothing, which is below each that holds a card, and else the card
unfoldable pub slot_key : Slot → List ℤ
slot_key None = []
slot_key (Some c) = key_of c

-- whether the first slot is less than the second
unfoldable pub less_slot : Slot → Slot → Bool
less_slot a b = lex lt_z (slot_key a) (slot_key b)

unfoldable pub greater_slot : Slot → Slot → Slot
greater_slot = max_of less_slot

-- the empty slot
abbrev pub blank : Slot
blank = None

-- the slot that holds a card
abbrev pub holding : Card → Slot
holding c = Some c

abbrev pub empty_shelf : Shelf
empty_shelf = record { slots = replicate 64 blank }

-- what stands in a slot
abbrev pub slot_at : Shelf → ℕ → Slot
slot_at s n = get_or s.slots n blank

-- the slot keeps the greater card; the others stay
abbrev pub put_shelf : Shelf → ℕ → Card → Shelf
put_shelf s n c = record { slots = set s.slots n (greater_slot (slot_at s n) (holding c)) }

-- putting a card, and whether that changes the slot; there are 64
abbrev pub put_of : Shelf → ℕ → Card → PutDone
put_of s n c = record { shelf = put_shelf s n c; changed = ltb n 64 && less_slot (slot_at s n) (holding c) }

-- slot by slot, the greater of the two
abbrev pub join_shelf : Shelf → Shelf → Shelf
join_shelf a b = record { slots = zip_with greater_slot a.slots b.slots }
