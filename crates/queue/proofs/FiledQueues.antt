-- A queue that is filed, and not refused: it is at most 65,536 octets, whole records to its end, and these are what is filed.
-- Assumes nothing.
use Prim.Native.Nat.{ℕ, ◌≤◌}
use native.Mathlib.Omega.{arith}
use mathlib.Core.Path.{◌≡◌, refl, ap}
use mathlib.Core.Bool.{Bool, true, false, cond}
use mathlib.Core.List.{List}
use lib.Dec.{ltb, eqb}
use lib.ListN.{length}
use borrow.Author.Tests.{le-ltb, ltb-false}
use Rattle.std.specs.Prelude.{Result, Ok, Err}
use Rattle.cutting.specs.Cuts.{cut_of}
use Rattle.layout.specs.Outcomes.{refusal}
use Rattle.layout.specs.declared.Refusal.{Refusal}
use Rattle.shelf.specs.declared.Shelf.{Shelf}
use Rattle.queue.specs.Queues.{record_step, records_filed, from_start, queue_refusal, refused_queue, accepted_queue, queue_filed}
use Rattle.queue.specs.declared.Counts.{Counts}
use Rattle.queue.specs.declared.Progress.{Progress}
use Rattle.queue.specs.declared.QueueFiled.{QueueFiled}

pub record FilesAll (q : List ℕ) (s : Shelf) (p : Progress) : Type 0 where
  pub short : length q ≤ 65536
  pub whole : (cut_of record_step q).whole ≡ true
  pub records : records_filed (from_start s) (cut_of record_step q).items ≡ p

pub files : (q : List ℕ) (s : Shelf) (p : Progress) → queue_filed s q ≡ accepted_queue p → FilesAll q s p
unfolding queue_filed queue_refusal
files q s p e = by_length (ltb 65536 (length q)) refl (cut_of record_step q).whole refl e
  where
    refused-files : (number : ℕ) → refused_queue s number ≡ accepted_queue p → FilesAll q s p
    refused-files number e =
        let answers : ◌≡◌ {A = Result Counts Refusal} (Err (refusal number 0 0)) (Ok p.counts) = ap (λ (x : QueueFiled). x.answer) e in
        let z : ◌≡◌ {A = ℕ} 0 1 = cc in absurd (omega arith)

    by_length : (t : Bool) → ltb 65536 (length q) ≡ t → (w : Bool) → (cut_of record_step q).whole ≡ w
        → cond (eqb (cond t 2 (cond w 0 19)) 0) (accepted_queue (records_filed (from_start s) (cut_of record_step q).items)) (refused_queue s (cond t 2 (cond w 0 19))) ≡ accepted_queue p → FilesAll q s p
    by_length true t w f e = refused-files 2 e
    by_length false t false f e = refused-files 19 e
    by_length false t true f e =
        let shelf-is : (records_filed (from_start s) (cut_of record_step q).items).shelf ≡ p.shelf = ap (λ (x : QueueFiled). x.shelf) e in
        let answer-is : ◌≡◌ {A = Result Counts Refusal} (Ok (records_filed (from_start s) (cut_of record_step q).items).counts) (Ok p.counts) = ap (λ (x : QueueFiled). x.answer) e in
        let counts-is : (records_filed (from_start s) (cut_of record_step q).items).counts ≡ p.counts = cc in
        record { short = ltb-false 65536 (length q) t; whole = f; records = λ i. record { shelf = shelf-is i; counts = counts-is i } }

pub filed : (q : List ℕ) (s : Shelf) (p : Progress) → FilesAll q s p → queue_filed s q ≡ accepted_queue p
unfolding queue_filed queue_refusal
filed q s p f = rw (le-ltb 65536 (length q) f.short, f.whole) (ap accepted_queue f.records)
