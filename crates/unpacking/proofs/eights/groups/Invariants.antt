-- `groups`: a group begins and ends with an octet.
-- Assumes nothing.
use Prim.Native.Nat.{◌-◌}
use lib.ListN.{length}
use Rattle.unpacking.specs.Groups.{Grouped}
use Rattle.unpacking.proofs.eights.groups.Given as goal

abbrev pub invariant-loop-row : goal.invariant-loop-row
invariant-loop-row g l = Grouped g.row.BITS l.packed l.row l.done

abbrev pub decreases-loop-row : goal.decreases-loop-row
decreases-loop-row g l = length l.fn.row - l.done.written
