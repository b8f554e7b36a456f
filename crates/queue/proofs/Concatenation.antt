-- Queues are files that can be put together: one behind the other they are filed as the first and then the second.
-- Assumes nothing.
use Prim.Native.Nat.{ℕ, ◌+◌, ◌≤◌}
use native.Mathlib.Omega.{arith}
use mathlib.Core.Path.{◌≡◌, refl, ap, ◌∙◌}
use mathlib.Core.List.{List, [], ◌∷◌, ◌++◌}
use lib.ListN.{length}
use Rattle.std.specs.Prelude.{Result, Ok, Err}
use Rattle.cutting.specs.Cuts.{Cut, cut_of}
use Rattle.cutting.proofs.Strung.{cut-both}
use Rattle.shelf.specs.declared.Shelf.{Shelf}
use Rattle.layout.specs.declared.Refusal.{Refusal}
use Rattle.filing.specs.declared.Change.{Change}
use Rattle.filing.specs.declared.Change.TheVariants.{Kept, Passed}
use Rattle.queue.specs.Queues.{Sent, record_step, record_filed, counted, one_more, records_filed, from_start, accepted_queue, queue_filed}
use Rattle.queue.specs.declared.Counts.{Counts}
use Rattle.queue.specs.declared.Progress.{Progress}
use Rattle.queue.proofs.FiledQueues.{files, filed}
use Rattle.queue.proofs.Cuts.{records-advance, records-look-no-further}

-- ---- the records of the first stand before those of the second, and they are filed before them

pub filed-in-turn : (rs more : List Sent) (p : Progress) → records_filed p (rs ++ more) ≡ records_filed (records_filed p rs) more
unfolding records_filed
filed-in-turn [] more p = refl
filed-in-turn (r ∷ rs) more p = filed-in-turn rs more (one_more p.counts (record_filed p.shelf r))

-- the counts of both
abbrev pub added : Counts → Counts → Counts
added m n = record { kept = m.kept + n.kept; passed = m.passed + n.passed; refused = m.refused + n.refused }

-- counts are what their three are
same-counts : (m n : Counts) → m.kept ≡ n.kept → m.passed ≡ n.passed → m.refused ≡ n.refused → m ≡ n
same-counts m n kept passed refused = λ i. record { kept = kept i; passed = passed i; refused = refused i }

one-added : (m n : Counts) (a : Result Change Refusal) → counted (added m n) a ≡ added m (counted n a)
one-added m n (Ok Kept) = same-counts _ _ (omega arith) (omega arith) (omega arith)
one-added m n (Ok Passed) = same-counts _ _ (omega arith) (omega arith) (omega arith)
one-added m n (Err x) = same-counts _ _ (omega arith) (omega arith) (omega arith)

-- counts that were there before are added to those of the records
counts-added : (rs : List Sent) (s : Shelf) (m n : Counts)
    → records_filed (record { shelf = s; counts = added m n }) rs ≡ record { shelf = (records_filed (record { shelf = s; counts = n }) rs).shelf; counts = added m (records_filed (record { shelf = s; counts = n }) rs).counts }
unfolding records_filed
counts-added [] s m n = refl
counts-added (r ∷ rs) s m n =
    let x = record_filed s r in
    ap (λ (k : Counts). records_filed (record { shelf = x.shelf; counts = k }) rs) (one-added m n x.answer) ∙ counts-added rs x.shelf m (counted n x.answer)

counts-before : (rs : List Sent) (p : Progress) → records_filed p rs ≡ record { shelf = (records_filed (from_start p.shelf) rs).shelf; counts = added p.counts (records_filed (from_start p.shelf) rs).counts }
counts-before rs p = ap (λ (k : Counts). records_filed (record { shelf = p.shelf; counts = k }) rs) none ∙ counts-added rs p.shelf p.counts (record { kept = 0; passed = 0; refused = 0 })
  where
    none : p.counts ≡ added p.counts (record { kept = 0; passed = 0; refused = 0 })
    none = same-counts _ _ (omega arith) (omega arith) (omega arith)

-- Two queues one after the other are filed as their octets one behind the other are, where these are not too many for a queue.
pub two-queues : (p q : List ℕ) (s : Shelf) (a b : Progress) → queue_filed s p ≡ accepted_queue a → queue_filed a.shelf q ≡ accepted_queue b → length (p ++ q) ≤ 65536
    → queue_filed s (p ++ q) ≡ accepted_queue (record { shelf = b.shelf; counts = added a.counts b.counts })
two-queues p q s a b e f l =
    let first = files p s a e in
    let second = files q a.shelf b f in
    let cut = cut-both record_step records-advance records-look-no-further p q first.whole in
    filed (p ++ q) s (record { shelf = b.shelf; counts = added a.counts b.counts })
    (record {
      short = l;
      whole = ap (λ (c : Cut Sent). c.whole) cut ∙ second.whole;
      records = ap (λ (c : Cut Sent). records_filed (from_start s) c.items) cut
          ∙ filed-in-turn (cut_of record_step p).items (cut_of record_step q).items (from_start s)
          ∙ ap (λ (x : Progress). records_filed x (cut_of record_step q).items) first.records
          ∙ counts-before (cut_of record_step q).items a
          ∙ ap (λ (x : Progress). record { shelf = x.shelf; counts = added a.counts x.counts }) second.records;
    })
