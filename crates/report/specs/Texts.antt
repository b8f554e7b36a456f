-- What the two programs print of a queue, octet by octet: the listing of what is held after filing it to an empty shelf, and the
-- explanation of what became of each record. Decimal, one space, a minus sign before a negative year; each line ends in a line end.
-- Assumes nothing.
use Rattle.std.specs.Prelude.{ℕ, ◌+◌, List, [], ◌∷◌, ◌++◌, cond, Option, Some, None, Result, Ok, Err}
use Rattle.octets.specs.Octets.{be_at}
use Rattle.lent.specs.Rows.{in_turn}
use Rattle.layout.specs.declared.Refusal.{Refusal}
use Rattle.card.specs.declared.Card.{Card}
use Rattle.shelf.specs.Shelves.{Slot, empty_shelf, slot_at}
use Rattle.shelf.specs.declared.Shelf.{Shelf}
use Rattle.filing.specs.declared.Change.{Change}
use Rattle.filing.specs.declared.Change.TheVariants.{Kept, Passed}
use Rattle.cutting.specs.Cuts.{cut_of}
use Rattle.queue.specs.Queues.{Sent, record_filed, record_step, queue_filed}
use Rattle.queue.specs.declared.Counts.{Counts}
use Rattle.text.specs.Text.{ascii, decimal, spaced, ended, time_text, refused_text}

-- ---- the lines that both have

unfoldable pub counts_line : Counts → List ℕ
counts_line n =
    ascii "kept " ++ (decimal n.kept ++ (ascii " passed " ++ (decimal n.passed ++ (ascii " refused " ++ ended n.refused))))

-- a queue refused
unfoldable pub refused_line : Refusal → List ℕ
refused_line x = ascii "refused " ++ ended x.number

-- ---- the listing

-- the template number: octets 8-9 of section 4, of which a card has 8-34
abbrev pub card_template : Card → ℕ
card_template c = be_at c.product 1 2

unfoldable pub card_line : ℕ → Card → List ℕ
card_line slot c =
    spaced slot
    ++ (time_text c.year c.month c.day c.hour c.minute c.second ++ (spaced c.issue ++ ended (card_template c)))

-- one line for a held slot
unfoldable pub slot_line : ℕ → Slot → List ℕ
slot_line slot None = []
slot_line slot (Some c) = card_line slot c

-- the 64 slots, rising
abbrev pub slot_lines : Shelf → List ℕ
slot_lines s = in_turn (λ (n : ℕ). slot_line n (slot_at s n)) 0 64

unfoldable pub filed_listing : Shelf → Counts → List ℕ
filed_listing shelf n =
    ascii "slot year month day hour minute second issue template\n" ++ (slot_lines shelf ++ counts_line n)

unfoldable pub listing_of : Shelf → Result Counts Refusal → List ℕ
listing_of shelf (Ok n) = filed_listing shelf n
listing_of shelf (Err refusal) = refused_line refusal

-- ---- the explanation

abbrev pub issue_text : Option ℕ → List ℕ
issue_text None = ascii "-"
issue_text (Some n) = decimal n

abbrev pub refused_fate : Refusal → List ℕ
refused_fate x = ascii " " ++ refused_text x

abbrev pub fate : Result Change Refusal → List ℕ
fate (Ok Kept) = ascii " kept\n"
fate (Ok Passed) = ascii " passed\n"
fate (Err x) = refused_fate x

-- a record's number, its slot and issue as the queue has them, and what became of it
unfoldable pub record_line : ℕ → ℕ → Option ℕ → Result Change Refusal → List ℕ
record_line k slot issue answer = spaced k ++ (spaced slot ++ (issue_text issue ++ fate answer))

-- in the queue's order, each filed to the shelf that the one before it left
unfoldable pub record_lines : ℕ → Shelf → List Sent → List ℕ
record_lines k s [] = []
record_lines k s (r ∷ rs) =
    record_line k r.slot r.issue (record_filed s r).answer ++ record_lines (k + 1) (record_filed s r).shelf rs

unfoldable pub filed_explanation : List Sent → Counts → List ℕ
filed_explanation records n = ascii "record slot issue fate\n" ++ (record_lines 1 empty_shelf records ++ counts_line n)

unfoldable pub explanation_of : List Sent → Result Counts Refusal → List ℕ
explanation_of records (Ok n) = filed_explanation records n
explanation_of records (Err refusal) = refused_line refusal

-- ---- of a queue

unfoldable pub listing : List ℕ → List ℕ
listing q = listing_of (queue_filed empty_shelf q).shelf (queue_filed empty_shelf q).answer

unfoldable pub explanation : List ℕ → List ℕ
explanation q = explanation_of (cut_of record_step q).items (queue_filed empty_shelf q).answer
