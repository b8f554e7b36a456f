-- `groups`: a group begins and ends with an octet.
-- Assumes nothing.
use native.Mathlib.Omega.{arith}
use Rattle.unpacking.proofs.Parts.{group_on}
use Rattle.unpacking.proofs.eights.groups.Goals as goal

pub loop-row-preserved : goal.loop-row-preserved
loop-row-preserved g c =
    group_on g.row.BITS _ _ c.args.packed.now c.loop-row.row c.fill.new.row c.loop-row.done c.loop-row.invariant (omega arith) (omega arith) (omega arith) (omega arith) c.fill.ensures
