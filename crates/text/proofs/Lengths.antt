-- How long the texts can be that several programs print: times, refusals, and pieces one after the other.
-- Assumes nothing.
use mathlib.Core.List.{List}
use Prim.Native.Nat.{ℕ, zero, suc, ◌*◌, ◌≤◌}
use native.Mathlib.Nat.{mul-suc}
use native.Mathlib.Omega.{arith}
use lib.IntN.{ℤ}
use lib.ListN.{length, length-append}
use Rattle.lent.specs.Rows.{in_turn}
use Rattle.layout.specs.declared.Refusal.{Refusal}
use Rattle.text.specs.Text.{time_text, refused_text}
use Rattle.text.proofs.Decimal.{decimal-most, whole-number-most}

pub time-most : (year : ℤ) (month day hour minute second : ℕ) → length (time_text year month day hour minute second) ≤ 127
unfolding time_text
time-most year month day hour minute second =
    simp length-append
    (omega (arith, whole-number-most year, decimal-most month, decimal-most day, decimal-most hour, decimal-most minute, decimal-most second))

pub refused-most : (x : Refusal) → length (refused_text x) ≤ 71
refused-most x = simp length-append (omega (arith, decimal-most x.number, decimal-most x.section, decimal-most x.place))

-- pieces in turn, each of at most so many octets
pub in-turn-most : (most : ℕ) (f : ℕ → List ℕ) → ((k : ℕ) → length (f k) ≤ most) → (i n : ℕ) → length (in_turn f i n) ≤ most * n
unfolding in_turn
in-turn-most most f h i zero = omega arith
in-turn-most most f h i (suc n) = simp (length-append, mul-suc) (omega (arith, h i, in-turn-most most f h (suc i) n))
