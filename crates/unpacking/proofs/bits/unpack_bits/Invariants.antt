-- `unpack_bits`: after each turn one place more is written, and the cursor stands before the next number.
-- Assumes nothing.
use mathlib.Core.Path.{◌≡◌}
use mathlib.Core.List.{List}
use Prim.Native.Nat.{ℕ, ◌+◌, ◌*◌}
use Rattle.unpacking.specs.Standing.{First}
use Rattle.unpacking.specs.declared.bits.Cursor.{Cursor}
use Rattle.unpacking.proofs.bits.unpack_bits.Given as goal

pub record Going (bits : ℕ) (xs row : List ℕ) (i : ℕ) (next : Cursor) : Type 0 where
  pub place : 8 * next.at + next.bit ≡ i * bits
  pub written : First bits xs row i

abbrev pub invariant-loop-place : goal.invariant-loop-place
invariant-loop-place l = Going l.bits l.packed l.row l.place-index l.next
