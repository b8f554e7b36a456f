-- Where an entry for C refuses, each lent buffer is as it was.
-- Assumes nothing.
use Prim.Native.Nat.{ℕ}
use mathlib.Core.Path.{refl, ap}
use mathlib.Core.Bool.{◌&&◌}
use mathlib.Core.List.{List, [], ◌∷◌}
use lib.Dec.{eqb, ltb, leb}
use lib.IntN.{ℤ}
use lib.ListN.{length, drop}
use Rattle.std.specs.Prelude.{Result, Ok, Err}
use Rattle.layout.specs.declared.Refusal.{Refusal}
use Rattle.layout.specs.Outcomes.{Outcome, refused, read}
use Rattle.layout.proofs.Outcomes.{either}
use Rattle.unpacking.specs.Packed.{unpacked}
use Rattle.packing.specs.Section5.{values_at, bits_at}
use Rattle.packing.specs.Unpacking.{unpack_outcome, row_by, row_after}
use Rattle.shelf.specs.declared.Shelf.{Shelf}
use Rattle.shelf_octets.specs.ShelfOctets.{shelf_in}
use Rattle.filing.specs.declared.Change.{Change}
use Rattle.filing.specs.declared.Change.TheVariants.{Kept, Passed}
use Rattle.filing.specs.Filing.{filed_of, issue_from}
use Rattle.queue.specs.declared.Counts.{Counts}
use Rattle.queue.specs.Queues.{queue_filed}
use Rattle.message.specs.Messages.{read_message}
use Rattle.lent.specs.Lent.{done, Untouched}
use Rattle.values.specs.Records.{section_outcome}
use Rattle.lent.proofs.Answers.{room-leaves}
use Rattle.values.proofs.RecordRead.{row_stays}
use Rattle.skogmund.specs.Entries.{coded, coded_check, no_room, row_unpacked, record_told, fits, listing_told}
use Rattle.skogmund.specs.Parts.{part_told}
use Rattle.skogmund.specs.Messages.{room_for, message_told}
use Rattle.skogmund.specs.Shelves.{is_shelf, emptied, joined, kept_in, field_kept, filed_field, queue_kept, filed_queue, slot_shown}

-- ---- sections, listings and messages

pub unpack-leaves : (five seven row : List ℕ) → Untouched 0 row (row_unpacked five seven row)
unfolding row_unpacked row_after
unpack-leaves five seven row h = by (unpack_outcome five seven row) h
  where
    by : (o : Outcome) → Untouched 0 row (done (coded o) (row_by o row (unpacked (bits_at five) (values_at five) (drop 5 seven))))
    by (refused number section place) h = refl
    by (read vs) h = absurd (h refl)

pub read-leaves : (section : ℕ) (s : List ℕ) (row : List ℤ) → Untouched 0 row (record_told section s row)
unfolding record_told
read-leaves section s row h = row_stays (section_outcome section s) row (λ e. h (ap coded_check e))

pub part-leaves : (part : ℕ) (s : List ℕ) (k : ℕ) (places : List ℕ) → Untouched 0 places (part_told part s k places)
unfolding part_told
part-leaves part s k places = room-leaves 0 no_room (leb 2 (length places)) _ places

pub list-leaves : (q text places : List ℕ) → Untouched 0 (text, places) (listing_told q text places)
unfolding listing_told
list-leaves q text places = room-leaves 0 no_room (fits q text places) _ (text, places)

pub message-leaves : (m spans places : List ℕ) → Untouched 0 (spans, places) (message_told m spans places)
unfolding message_told
message-leaves m spans places =
    either (Untouched 0 (spans, places)) (eqb (read_message m).refusal.number 0) (room-leaves 0 no_room (room_for spans places) _ (spans, places)) (λ h. refl)

-- ---- shelves as octets

pub empty-leaves : (s : List ℕ) → Untouched 0 s (emptied s)
unfolding emptied
empty-leaves s = room-leaves 0 no_room (is_shelf s) _ s

pub join-leaves : (s other : List ℕ) → Untouched 0 s (joined s other)
unfolding joined
join-leaves s other = room-leaves 0 no_room (is_shelf s && is_shelf other) _ s

pub slot-leaves : (s : List ℕ) (slot : ℕ) (values : List ℤ) → Untouched 0 values (slot_shown s slot values)
unfolding slot_shown
slot-leaves s slot values = either (Untouched 0 values) (ltb 63 slot) (λ h. refl) (room-leaves 0 no_room (is_shelf s && leb 64 (length values)) _ values)

keep-leaves : (s places : List ℕ) (after : Shelf) (ns : List ℕ) → Untouched 0 (s, places) (kept_in s places after ns)
unfolding kept_in
keep-leaves s places after ns = room-leaves 0 no_room (is_shelf s && leb (length ns) (length places)) _ (s, places)

pub field-leaves : (s : List ℕ) (slot stored : ℕ) (s1 s3 s4 s5 s7 places : List ℕ) → Untouched 0 (s, places) (filed_field s slot stored s1 s3 s4 s5 s7 places)
unfolding filed_field field_kept
field-leaves s slot stored s1 s3 s4 s5 s7 places =
    let made = filed_of (shelf_in s) slot (issue_from stored) s1 s3 s4 s5 s7 in
    either (Untouched 0 (s, places)) (ltb 4294967296 stored) (λ h. refl) (by made.shelf made.answer)
  where
    by : (after : Shelf) (x : Result Change Refusal) → Untouched 0 (s, places) (field_kept s places after x)
    by after (Err x) h = refl
    by after (Ok Kept) h = keep-leaves s places after (1 ∷ []) h
    by after (Ok Passed) h = keep-leaves s places after (0 ∷ []) h

pub queue-leaves : (s q places : List ℕ) → Untouched 0 (s, places) (filed_queue s q places)
unfolding filed_queue queue_kept
queue-leaves s q places = by (queue_filed (shelf_in s) q).shelf (queue_filed (shelf_in s) q).answer
  where
    by : (after : Shelf) (x : Result Counts Refusal) → Untouched 0 (s, places) (queue_kept s places after x)
    by after (Err x) h = refl
    by after (Ok n) h = keep-leaves s places after (n.kept ∷ n.passed ∷ n.refused ∷ []) h
