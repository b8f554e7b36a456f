-- `file_records`: what is filed, and what is left to file, are together the queue's.
-- Assumes nothing.
use native.Mathlib.Omega.{arith}
use mathlib.Core.Path.{◌≡◌, ap, sym, ◌∙◌}
use mathlib.Core.List.{List, ◌∷◌}
use Prim.Native.Nat.{ℕ}
use lib.ListN.{length}
use Rattle.cutting.specs.Cuts.{Cut}
use Rattle.queue.specs.Queues.{Sent, record_filed, one_more, records_filed, three_together}
use Rattle.queue.specs.Walks.{cut_left}
use Rattle.queue.specs.declared.Progress.{Progress}
use Rattle.queue.proofs.Counting.{one-more}
use Rattle.queue.proofs.Cuts.{records-few}
use Rattle.queue.proofs.file_records.Invariants.{Inv}
use Rattle.queue.proofs.file_records.Goals as goal

-- the records that are left
abbrev items_of : Cut Sent → List Sent
items_of c = c.items

-- one less is left, and one more is filed
one_less : (queue : List ℕ) (first before after : Progress) (left rest : List Sent) (r : Sent) → Inv queue first before left → left ≡ r ∷ rest → after ≡ one_more before.counts (record_filed before.shelf r)
    → Inv queue first after rest
unfolding records_filed
one_less queue first before after left rest r v e f =
    let answer = (record_filed before.shelf r).answer in
    record {
      few = omega (arith, v.few, ap length e, ap (λ (p : Progress). three_together p.counts) f, one-more before.counts answer);
      so_far = ap (λ (p : Progress). records_filed p rest) f ∙ sym (ap (records_filed before) e) ∙ v.so_far;
    }

pub loop-sent-init : goal.loop-sent-init
loop-sent-init c =
    let all = ap items_of (ap cut_left c.into_iter-sent-iterator.ensures.into_iter_gives ∙ c.of-sent-items.ensures.cut) in
    record { few = omega (arith, ap length all, records-few c.args.queue.now); so_far = ap (records_filed _) all }

pub loop-sent-preserved : goal.loop-sent-preserved
loop-sent-preserved c =
    one_less c.args.queue.now _ c.loop-sent.progress _ _ _ _ c.loop-sent.invariant (ap items_of c.in-Some.ensures.steps.3) c.file_next-progress.ensures

pub returns : goal.returns
unfolding records_filed
returns c = sym (ap (records_filed c.loop-sent.progress) (ap items_of c.in-None.ensures.steps.0)) ∙ c.loop-sent.invariant.so_far
