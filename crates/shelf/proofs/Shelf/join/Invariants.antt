-- `Shelf::join`: the slots up to the index are joined, and those behind it are as they were.
-- Assumes nothing.
use Rattle.std.proofs.Common.{◌≡◌}
use Rattle.shelf.specs.Shelves.{greater_slot}
use Rattle.shelf.proofs.Pointwise.{up_to}
use Rattle.shelf.proofs.Shelf.join.Given as goal

abbrev pub invariant-loop-i : goal.invariant-loop-i
invariant-loop-i l = l.self.slots ≡ up_to greater_slot l.i l.initial.self.slots l.fn.other.slots
