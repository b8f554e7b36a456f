-- `record_lines`: record by record, what is left to write stands behind what is written.
-- Assumes nothing.
use Prim.Native.Nat.{ℕ, ◌+◌, ◌≤◌}
use mathlib.Core.List.{List}
use lib.ListN.{length}
use Rattle.shelf.specs.declared.Shelf.{Shelf}
use Rattle.shelf.specs.Shelves.{empty_shelf}
use Rattle.cutting.specs.Cuts.{cut_of}
use Rattle.queue.specs.Queues.{Sent, record_step}
use Rattle.queue.specs.Walks.{records_left}
use Rattle.lent.specs.declared.Writer.{Writer}
use Rattle.lent.proofs.Writers.{Writing}
use Rattle.report.specs.Texts.{record_lines}
use Rattle.report.proofs.record_lines.Given as goal

-- so many records have a line, and these are left
pub record Inv (first : Writer) (queue : List ℕ) (here : Writer) (shelf : Shelf) (count : ℕ) (left : List Sent) : Type 0 where
  pub few : count + length left ≤ length queue
  pub rest : Writing first (record_lines 1 empty_shelf (cut_of record_step queue).items) here (record_lines (count + 1) shelf left)

abbrev pub invariant-loop-i : goal.invariant-loop-i
invariant-loop-i l = Inv l.initial.out l.queue l.out l.shelf l.i-iterator.count (records_left l.i-iterator.iter)
