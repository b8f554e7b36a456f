-- `well_cut`: from record to record, what is left is whole if the queue is.
-- Assumes nothing.
use mathlib.Core.Path.{◌≡◌}
use Rattle.cutting.specs.Cuts.{cut_of}
use Rattle.queue.specs.Queues.{record_step}
use Rattle.queue.specs.Walks.{cut_left}
use Rattle.queue.proofs.well_cut.Given as goal

abbrev pub invariant-loop : goal.invariant-loop
invariant-loop l = (cut_left l.records).whole ≡ (cut_of record_step l.queue).whole
