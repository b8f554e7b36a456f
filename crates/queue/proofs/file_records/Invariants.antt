-- `file_records`: what is filed, and what is left to file, are together the queue's.
-- Assumes nothing.
use Prim.Native.Nat.{ℕ, ◌+◌, ◌≤◌}
use mathlib.Core.Path.{◌≡◌}
use mathlib.Core.List.{List}
use lib.ListN.{length}
use Rattle.cutting.specs.Cuts.{cut_of}
use Rattle.queue.specs.Queues.{Sent, record_step, records_filed, three_together}
use Rattle.queue.specs.Walks.{records_left}
use Rattle.queue.specs.declared.Progress.{Progress}
use Rattle.queue.proofs.file_records.Given as goal

pub record Inv (queue : List ℕ) (first progress : Progress) (left : List Sent) : Type 0 where
  pub few : three_together progress.counts + length left ≤ length queue
  pub so_far : records_filed progress left ≡ records_filed first (cut_of record_step queue).items

abbrev pub invariant-loop-sent : goal.invariant-loop-sent
invariant-loop-sent l = Inv l.queue l.initial.progress l.progress (records_left l.sent-iterator)
