-- `fill`: after each turn one place more is written, and the run stands before the next number.
-- Assumes nothing.
use mathlib.Core.Path.{◌≡◌}
use mathlib.Core.List.{List}
use Prim.Native.Nat.{ℕ, ◌-◌, ◌*◌}
use Rattle.unpacking.specs.Standing.{First, Stands}
use Rattle.unpacking.specs.declared.carrying.Run.{Run}
use Rattle.unpacking.proofs.carrying.fill.Given as goal

pub record Going (bits : ℕ) (xs row : List ℕ) (i : ℕ) (run : Run) : Type 0 where
  pub place : 8 * run.taken - run.left ≡ i * bits
  pub stands : Stands xs run
  pub written : First bits xs row i

abbrev pub invariant-loop-place : goal.invariant-loop-place
invariant-loop-place l = Going l.width.bits l.packed l.row l.place-index l.run
