-- The text of either program fits the buffer that it is written into, whatever the queue: nothing of it is ever cut.
-- Assumes nothing.
use mathlib.Core.Path.{◌≡◌, refl}
use mathlib.Core.Bool.{Bool, true, false, cond}
use Rattle.std.proofs.Common.{Some, None}
use mathlib.Core.List.{List, ◌∷◌}
use Prim.Native.Nat.{ℕ, ◌+◌, ◌*◌, ◌-◌, ◌^◌, ◌≤◌, ◌<◌}
use native.Mathlib.Omega.{arith}
use lib.Dec.{eqb}
use lib.ListN.{length, drop, length-append, length-drop}
use Rattle.std.specs.Prelude.{Option, Some, None, Result, Ok, Err}
use Rattle.layout.specs.declared.Refusal.{Refusal}
use Rattle.card.specs.declared.Card.{Card}
use Rattle.cutting.specs.Cuts.{cut_of}
use Rattle.cutting.proofs.Taken.{taken}
use Rattle.shelf.specs.Shelves.{Slot, empty_shelf, slot_at}
use Rattle.shelf.specs.declared.Shelf.{Shelf}
use Rattle.filing.specs.Filing.{issue_from}
use Rattle.filing.specs.declared.Change.{Change}
use Rattle.filing.specs.declared.Change.TheVariants.{Kept, Passed}
use Rattle.queue.specs.Records.{record_of}
use Rattle.queue.specs.Queues.{Sent, record_in, record_filed, record_step, queue_filed}
use Rattle.queue.specs.declared.Counts.{Counts}
use Rattle.queue.specs.declared.Head.{Head}
use Rattle.queue.proofs.Cuts.{stands, by-records}
use Rattle.queue.proofs.FiledQueues.{files}
use Rattle.lent.specs.Written.{written, append, starts_with}
use Rattle.lent.proofs.Written.{append-whole}
use Rattle.text.proofs.Decimal.{decimal-short, decimal-most}
use Rattle.text.proofs.Lengths.{time-most, refused-most, in-turn-most}
use Rattle.report.specs.Texts.{counts_line, refused_line, card_template, card_line, slot_line, slot_lines, filed_listing, listing_of, issue_text, fate, record_line, record_lines, filed_explanation, explanation_of, listing, explanation}

-- ---- the lines that both have

counts-line : (n : Counts) → length (counts_line n) ≤ 83
unfolding counts_line
counts-line n = simp length-append (omega (arith, decimal-most n.kept, decimal-most n.passed, decimal-most n.refused))

refused-line : (x : Refusal) → length (refused_line x) ≤ 29
unfolding refused_line
refused-line x = simp length-append (omega (arith, decimal-most x.number))

-- ---- the listing

card-line : (slot : ℕ) (c : Card) → length (card_line slot c) ≤ 190
unfolding card_line
card-line slot c =
    simp length-append
    (omega (arith, decimal-most slot, time-most c.year c.month c.day c.hour c.minute c.second, decimal-most c.issue, decimal-most (card_template c)))

slot-line : (slot : ℕ) (x : Slot) → length (slot_line slot x) ≤ 190
unfolding slot_line
slot-line slot None = omega arith
slot-line slot (Some c) = card-line slot c

slot-lines : (s : Shelf) → length (slot_lines s) ≤ 12160
slot-lines s = in-turn-most 190 (λ (n : ℕ). slot_line n (slot_at s n)) (λ n. slot-line n (slot_at s n)) 0 64

listing-of : (s : Shelf) (a : Result Counts Refusal) → length (listing_of s a) ≤ 16384
unfolding listing_of filed_listing
listing-of s (Ok n) = simp length-append (omega (arith, slot-lines s, counts-line n))
listing-of s (Err x) = omega (arith, refused-line x)

pub listing-fits : (q : List ℕ) → length (listing q) ≤ 16384
unfolding listing
listing-fits q = listing-of (queue_filed empty_shelf q).shelf (queue_filed empty_shelf q).answer

-- ---- the explanation

issue-text : (stored : ℕ) → stored ≤ 4294967296 → length (issue_text (issue_from stored)) ≤ 10
issue-text stored h = by-named (eqb stored 0)
  where
    by-named : (b : Bool) → length (issue_text (cond b None (Some (stored - 1)))) ≤ 10
    by-named true = omega arith
    by-named false = decimal-short 10 (stored - 1) (omega arith) (omega arith)

fate-text : (a : Result Change Refusal) → length (fate a) ≤ 72
fate-text (Ok Kept) = omega arith
fate-text (Ok Passed) = omega arith
fate-text (Err x) = omega (arith, refused-most x)

record-line : (k slot : ℕ) (issue : Option ℕ) (a : Result Change Refusal) → k < 10 ^ 5 → slot ≤ 4294967296 → length (issue_text issue) ≤ 10 → length (record_line k slot issue a) ≤ 99
unfolding record_line
record-line k slot issue a few-k few-slot few-issue =
    simp length-append (omega (arith, decimal-short 5 k (omega arith) few-k, decimal-short 10 slot (omega arith) (omega arith), fate-text a))

-- a record has three numbers, each of at least one octet, and its line at most 99 octets: 33 for each octet of the record
abbrev Bounded : List ℕ → List Sent → Type 0
Bounded s rs = (k : ℕ) (shelf : Shelf) → k + length s < 10 ^ 5 → length (record_lines k shelf rs) ≤ 33 * length s

one_more : (s : List ℕ) (h : Head) (rs : List Sent) → record_of s ≡ Some h → Bounded (drop h.end s) rs → Bounded s (record_in s h ∷ rs)
unfolding record_lines
one_more s h rs e others k shelf room =
    let r = stands s h e in
    let x = taken _ _ r.first in
    let y = taken _ _ r.second in
    let z = taken _ _ r.third in
    let filed = record_filed shelf (record_in s h) in
    let line = record-line k h.slot h.issue filed.answer (omega arith) x.small (rw r.named (issue-text r.stored y.small)) in
    let rest = others (k + 1) filed.shelf (simp length-drop (omega arith)) in
    simp length-append (omega (arith, line, rest, length-drop h.end s))

record-lines : (s : List ℕ) → Bounded s (cut_of record_step s).items
unfolding record_lines
record-lines = by-records Bounded (λ s k shelf room. omega arith) one_more

-- a queue that is not refused has at most 65,536 octets
accepted-short : (s : Shelf) (q : List ℕ) (n : Counts) → (queue_filed s q).answer ≡ Ok n → length q ≤ 65536
accepted-short s q n e = (files q s (record { shelf = (queue_filed s q).shelf; counts = n }) (λ i. record { shelf = (queue_filed s q).shelf; answer = e i })).short

pub explanation-fits : (q : List ℕ) → length (explanation q) ≤ 2163200
unfolding explanation explanation_of filed_explanation
explanation-fits q = by_answer (queue_filed empty_shelf q).answer refl
  where
    by_answer : (a : Result Counts Refusal) → (queue_filed empty_shelf q).answer ≡ a → length (explanation_of (cut_of record_step q).items a) ≤ 2163200
    by_answer (Ok n) e =
        let short = accepted-short empty_shelf q n e in
        simp length-append (omega (arith, record-lines q 1 empty_shelf (omega arith), counts-line n))
    by_answer (Err x) e = omega (arith, refused-line x)

-- ---- so what is left at the start of the buffer is the whole text

pub listing-whole : (q out : List ℕ) → length out ≡ 16384 → append (written out 0) (listing q) ≡ starts_with out (listing q)
listing-whole q out e = append-whole out (listing q) (omega (arith, listing-fits q))

pub explanation-whole : (q out : List ℕ) → length out ≡ 2163200 → append (written out 0) (explanation q) ≡ starts_with out (explanation q)
explanation-whole q out e = append-whole out (explanation q) (omega (arith, explanation-fits q))
