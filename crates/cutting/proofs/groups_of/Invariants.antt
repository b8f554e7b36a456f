-- `groups_of`: what was read so far stands before what follows.
-- Assumes nothing.
use mathlib.Core.Path.{◌≡◌}
use mathlib.Core.List.{List}
use Prim.Native.Nat.{ℕ, ◌-◌, ◌*◌, ◌^◌, ◌<◌}
use lib.ListN.{drop}
use Rattle.cutting.specs.Numbers.{groups}
use Rattle.cutting.proofs.Numbers.{ahead}
use Rattle.cutting.proofs.groups_of.Given as goal

pub record Going (s : List ℕ) (value scale i : ℕ) : Type 0 where
  pub power : scale ≡ 2 ^ (7 * i)
  pub below : value < scale
  pub so_far : groups 5 s ≡ ahead value scale i (groups (5 - i) (drop i s))

abbrev pub invariant-loop-i : goal.invariant-loop-i
invariant-loop-i l = Going l.octets l.value l.scale l.i
