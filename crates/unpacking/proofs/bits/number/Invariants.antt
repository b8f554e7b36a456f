-- `number`: after each turn the value is of one bit more.
-- Assumes nothing.
use mathlib.Core.Path.{◌≡◌}
use mathlib.Core.List.{List}
use Prim.Native.Nat.{ℕ, ◌+◌, ◌*◌}
use Rattle.unpacking.specs.Packed.{bits_from}
use Rattle.unpacking.specs.declared.bits.Cursor.{Cursor}
use Rattle.unpacking.proofs.bits.number.Given as goal

pub record Going (xs : List ℕ) (start next : Cursor) (value turns : ℕ) : Type 0 where
  pub first : value ≡ bits_from xs (8 * start.at + start.bit) turns
  pub place : 8 * next.at + next.bit ≡ 8 * start.at + start.bit + turns

abbrev pub invariant-loop : goal.invariant-loop
invariant-loop l = Going l.packed l.fn.from l.next l.value l.counter
