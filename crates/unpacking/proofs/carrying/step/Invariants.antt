-- `step`: octets are held until they have the number's bits.
-- Assumes nothing.
use mathlib.Core.Path.{◌≡◌}
use mathlib.Core.List.{List}
use Prim.Native.Nat.{ℕ, ◌+◌, ◌-◌, ◌*◌, ◌<◌}
use Rattle.unpacking.specs.Standing.{Holds}
use Rattle.unpacking.specs.declared.carrying.Run.{Run}
use Rattle.unpacking.proofs.carrying.step.Given as goal

pub record Going (bits : ℕ) (xs : List ℕ) (run : Run) (taken held left : ℕ) : Type 0 where
  pub holds : Holds xs taken held left
  pub place : 8 * taken - left ≡ 8 * run.taken - run.left
  pub few : left < bits + 8

abbrev pub invariant-loop-left : goal.invariant-loop-left
invariant-loop-left l = Going l.width.bits l.packed l.fn.run l.taken l.held l.left

abbrev pub decreases-loop-left : goal.decreases-loop-left
decreases-loop-left l = l.width.bits - l.left
