-- `step`: a place has room for the number.
-- Assumes nothing.
use native.Mathlib.Omega.{arith}
use Rattle.unpacking.proofs.Carried.{number_fits}
use Rattle.unpacking.proofs.carrying.step.Goals as goal

pub overflow_cast-number : goal.overflow_cast-number
overflow_cast-number c =
    record { fits = number_fits _ _ _ _ _ _ c.loop-left.invariant.holds (omega arith) c.power-weight.ensures c.args.width.narrow }
