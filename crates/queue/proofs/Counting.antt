-- Kept, passed and refused: each record counts once, so that the three sum to the records, and it counts as its filing and its slot before and after say.
-- Assumes nothing.
use Prim.Native.Nat.{ℕ, ◌+◌}
use native.Mathlib.Omega.{arith}
use mathlib.Core.Path.{◌≡◌, refl, ap, ◌∙◌}
use mathlib.Core.List.{List, [], ◌∷◌}
use lib.ListN.{length, length-set}
use Rattle.std.specs.Prelude.{Result, Ok, Err}
use Rattle.cutting.specs.Cuts.{cut_of}
use Rattle.shelf.specs.declared.Shelf.{Shelf}
use Rattle.filing.specs.Filing.{Filing, refused_filing, accepted, filed_by}
use Rattle.layout.specs.declared.Refusal.{Refusal}
use Rattle.filing.specs.declared.Change.{Change}
use Rattle.filing.specs.declared.Change.TheVariants.{Kept, Passed}
use Rattle.filing.proofs.SaidOfTheSlots.{said}
use Rattle.queue.specs.Queues.{Sent, record_filing, record_filed, record_step, counted, three_together, one_more, records_filed, from_start, accepted_queue, queue_filed}
use Rattle.queue.specs.Counting.{answers_of, is_kept, is_passed, is_refused, how_many, AllSaid, Reports}
use Rattle.queue.specs.declared.Counts.{Counts}
use Rattle.queue.specs.declared.Progress.{Progress}
use Rattle.queue.proofs.FiledQueues.{files}
use Rattle.queue.proofs.RecordsAsCards.{record-there}

pub one-more : (n : Counts) (a : Result Change Refusal) → three_together (counted n a) ≡ three_together n + 1
one-more n (Ok Kept) = omega arith
one-more n (Ok Passed) = omega arith
one-more n (Err x) = omega arith

-- to each of the three is added whether the answer is that one
as-answered : (n : Counts) (a : Result Change Refusal) → ((counted n a).kept ≡ n.kept + is_kept a) × ((counted n a).passed ≡ n.passed + is_passed a) × ((counted n a).refused ≡ n.refused + is_refused a)
as-answered n (Ok Kept) = (omega arith, omega arith, omega arith)
as-answered n (Ok Passed) = (omega arith, omega arith, omega arith)
as-answered n (Err x) = (omega arith, omega arith, omega arith)

-- a number of the counts, to which each answer adds: after the records it is what it was before, and what their answers add together
module _ (number : Counts → ℕ) (is : Result Change Refusal → ℕ) (adds : (n : Counts) (a : Result Change Refusal) → number (counted n a) ≡ number n + is a) where
  counts-are : (rs : List Sent) (p : Progress) → number (records_filed p rs).counts ≡ number p.counts + how_many is (answers_of p.shelf rs)
  unfolding records_filed answers_of how_many
  counts-are [] p = omega arith
  counts-are (r ∷ rs) p =
      let x = record_filed p.shelf r in
      let rest = counts-are rs (one_more p.counts x) in
      let one = adds p.counts x.answer in
      omega (arith, rest, one)

  -- so of a queue that is filed, whose counts start at 0
  count-is : (q : List ℕ) (s : Shelf) (p : Progress) → queue_filed s q ≡ accepted_queue p → number (from_start s).counts ≡ 0 → number p.counts ≡ how_many is (answers_of s (cut_of record_step q).items)
  count-is q s p e none =
      let same = ap (λ (x : Progress). number x.counts) (files q s p e).records in
      omega (arith, none, same, counts-are (cut_of record_step q).items (from_start s))

-- there are as many answers as records
one_each : (rs : List Sent) (s : Shelf) → how_many (λ a. 1) (answers_of s rs) ≡ length rs
unfolding answers_of how_many
one_each [] s = refl
one_each (r ∷ rs) s = let rest = one_each rs (record_filed s r).shelf in omega (arith, rest)

-- ---- what each answer says of its record's slot

stays-long : (s : Shelf) (slot : ℕ) (f : Filing) → length s.slots ≡ 64 → length (filed_by s slot f).shelf.slots ≡ 64
unfolding filed_by
stays-long s slot (refused_filing number section place) long = long
stays-long s slot (accepted card) long = length-set s.slots slot _ ∙ long

pub all_said : (rs : List Sent) (s : Shelf) → length s.slots ≡ 64 → AllSaid s rs
unfolding AllSaid record_filed
all_said [] s long = tt
all_said (r ∷ rs) s long = (said s r.slot (record_filing r) long (record-there r), all_said rs (record_filed s r).shelf (stays-long s r.slot (record_filing r) long))

-- ---- so of a queue that is filed

pub queue-counts : (q : List ℕ) (s : Shelf) (p : Progress) → queue_filed s q ≡ accepted_queue p → Reports s (cut_of record_step q).items p.counts
queue-counts q s p e =
    record {
      kept = count-is (λ n. n.kept) is_kept (λ n a. (as-answered n a).0) q s p e refl;
      passed = count-is (λ n. n.passed) is_passed (λ n a. (as-answered n a).1) q s p e refl;
      refused = count-is (λ n. n.refused) is_refused (λ n a. (as-answered n a).2) q s p e refl;
      slots = all_said (cut_of record_step q).items s;
      sum = count-is three_together (λ a. 1) one-more q s p e refl ∙ one_each (cut_of record_step q).items s;
    }
