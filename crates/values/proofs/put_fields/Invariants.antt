-- `put_fields`: what the letters ahead still write, written into the row as it is now, makes the row of all of them.
-- Assumes nothing.
use Prim.Native.Nat.{ℕ, ◌+◌, ◌-◌, ◌*◌, ◌≤◌}
use mathlib.Core.Path.{◌≡◌}
use mathlib.Core.List.{List}
use lib.IntN.{ℤ}
use lib.ListN.{length, drop}
use lib.Seq.{sets}
use Rattle.values.specs.Letters.{numbers_by}
use Rattle.values.proofs.put_fields.Given as goal

pub record Going (s letters : List ℕ) (row₀ row : List ℤ) (at i : ℕ) : Type 0 where
  pub within : i ≤ length letters
  pub long : length row ≡ length row₀
  pub near : at ≤ 1 + 4 * i
  pub ahead : sets row (i + 1) (numbers_by (drop i letters) at s) ≡ sets row₀ 1 (numbers_by letters 1 s)

abbrev pub invariant-loop-i : goal.invariant-loop-i
invariant-loop-i l = Going l.s l.letters l.initial.values l.values l.at l.i
