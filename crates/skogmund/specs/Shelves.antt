-- What the entries on a shelf's octets answer, and what is then in the lent buffers. A refusal leaves each as it was.
-- Assumes nothing.
use Rattle.std.specs.Prelude.{ℕ, ◌≤◌, ◌≡◌, Bool, cond, ◌&&◌, List, [], ◌∷◌, map, eqb, ltb, leb, ℤ, pos, length, replicate, Some, None, Result, Ok, Err}
use Rattle.octets.specs.Octets.{part}
use Rattle.lent.specs.Lent.{Done, done, done_both, over, with_count, if_room}
use Rattle.card.specs.declared.Card.{Card}
use Rattle.shelf.specs.declared.Shelf.{Shelf}
use Rattle.shelf.specs.Shelves.{Slot, slot_at}
use Rattle.shelf_octets.specs.ShelfOctets.{shelf_in, as_octets, join_octets}
use Rattle.layout.specs.declared.Refusal.{Refusal}
use Rattle.filing.specs.declared.Change.{Change}
use Rattle.filing.specs.declared.Change.TheVariants.{Kept, Passed}
use Rattle.filing.specs.Filing.{filed_of, issue_from}
use Rattle.filing.specs.Accepted.{FollowsFiling}
use Rattle.queue.specs.declared.Counts.{Counts}
use Rattle.queue.specs.Queues.{queue_filed}
use Rattle.skogmund.specs.Entries.{code, code_of, no_room}

-- these are as many octets as a shelf has
abbrev pub is_shelf : List ℕ → Bool
is_shelf s = eqb (length s) 2624

-- ---- a shelf alone

unfoldable pub emptied : List ℕ → Done ℕ (List ℕ)
emptied s = if_room 0 no_room (is_shelf s) (replicate 2624 0) s

unfoldable pub joined : List ℕ → List ℕ → Done ℕ (List ℕ)
joined s other = if_room 0 no_room (is_shelf s && is_shelf other) (join_octets s other) s

-- ---- a shelf and numbers

-- the shelf that is made of these octets and so many numbers, if there is room for both
unfoldable pub kept_in : List ℕ → List ℕ → Shelf → List ℕ → Done ℕ (List ℕ × List ℕ)
kept_in s places after ns = if_room 0 no_room (is_shelf s && leb (length ns) (length places)) (as_octets after, over places ns) (s, places)

-- a field is refused, or whether its slot changed is kept with the shelf
unfoldable pub field_kept : List ℕ → List ℕ → Shelf → Result Change Refusal → Done ℕ (List ℕ × List ℕ)
field_kept s places after (Err x) = done_both (code_of x) s places
field_kept s places after (Ok Kept) = kept_in s places after (1 ∷ [])
field_kept s places after (Ok Passed) = kept_in s places after (0 ∷ [])

-- 19 comes before all that filing refuses
unfoldable pub filed_field : List ℕ → ℕ → ℕ → List ℕ → List ℕ → List ℕ → List ℕ → List ℕ → List ℕ → Done ℕ (List ℕ × List ℕ)
filed_field s slot stored s1 s3 s4 s5 s7 places =
    cond (ltb 4294967296 stored) (done_both (code 19 0 0) s places)
    (field_kept s places
    (filed_of (shelf_in s) slot (issue_from stored) s1 s3 s4 s5 s7).shelf
    (filed_of (shelf_in s) slot (issue_from stored) s1 s3 s4 s5 s7).answer)

-- a queue is refused, or its three counts are kept with the shelf
unfoldable pub queue_kept : List ℕ → List ℕ → Shelf → Result Counts Refusal → Done ℕ (List ℕ × List ℕ)
queue_kept s places after (Err x) = done_both (code_of x) s places
queue_kept s places after (Ok n) = kept_in s places after (n.kept ∷ n.passed ∷ n.refused ∷ [])

unfoldable pub filed_queue : List ℕ → List ℕ → List ℕ → Done ℕ (List ℕ × List ℕ)
filed_queue s q places = queue_kept s places (queue_filed (shelf_in s) q).shelf (queue_filed (shelf_in s) q).answer

-- ---- what a slot holds

-- real year, month, day, hour, minute, second, issue, and octets 8-34 of section 4
abbrev pub card_values : Card → List ℤ
card_values c =
    c.year
    ∷ pos c.month
    ∷ pos c.day
    ∷ pos c.hour
    ∷ pos c.minute
    ∷ pos c.second
    ∷ pos c.issue
    ∷ map pos (part c.product 1 27)

-- none, of an empty slot
unfoldable pub slot_numbers : Slot → List ℤ
slot_numbers None = []
slot_numbers (Some c) = card_values c

-- 16 comes before 18
unfoldable pub slot_shown : List ℕ → ℕ → List ℤ → Done ℕ (List ℤ)
slot_shown s slot values =
    cond (ltb 63 slot) (done (code 16 0 0) values)
    (if_room 0 no_room (is_shelf s && leb 64 (length values)) (with_count (slot_numbers (slot_at (shelf_in s) slot)) values) values)

-- ---- for the demands: when something is filed

-- room for the shelf and for so many numbers
abbrev pub Room : List ℕ → List ℕ → ℕ → Type 0
Room s places n = (length s ≡ 2624) × (n ≤ length places)

-- an issue that can be stored, a field that can be filed to the slot, and room
abbrev pub Files : List ℕ → ℕ → ℕ → List ℕ → List ℕ → List ℕ → List ℕ → List ℕ → List ℕ → Type 0
Files s slot stored s1 s3 s4 s5 s7 places = (stored ≤ 4294967296) × FollowsFiling slot s1 s3 s4 s5 s7 × Room s places 1

-- what is then in the places: 1 for a field that is kept, and 0 for one that is passed
abbrev pub FieldTold : Result Change Refusal → List ℕ → List ℕ → Type 0
FieldTold (Ok Kept) places later = later ≡ over places (1 ∷ [])
FieldTold (Ok Passed) places later = later ≡ over places (0 ∷ [])
FieldTold (Err x) places later = ⊥

-- and of a queue how many records were kept, how many passed, how many refused
abbrev pub QueueTold : Result Counts Refusal → List ℕ → List ℕ → Type 0
QueueTold (Ok n) places later = later ≡ over places (n.kept ∷ n.passed ∷ n.refused ∷ [])
QueueTold (Err x) places later = ⊥
