-- The digits that `io::decimal` writes are the number's.
-- Assumes nothing.
use mathlib.Core.Path.{◌≡◌}
use Prim.Native.Nat.{ℕ, zero, suc, ◌*◌, ◌/◌, ◌%◌, ◌^◌, ◌≤◌}
use native.Mathlib.Nat.{pow-suc, one-le-pow}
use native.Mathlib.Numerals.{unary_clauses}
use native.Mathlib.Omega.{arith}
use borrow.Author.Tests.{lt-ltb, le-ltb}
use Rattle.io.specs.Digits.{last_digits, IsDigitCount}
use Rattle.text.specs.Text.{digits_in}

pub same_digits : (k most n : ℕ) → k ≤ most → IsDigitCount 10 1 n k → last_digits 10 k n ≡ digits_in most n
unfolding digits_in
same_digits zero most n h f = absurd (omega arith)
same_digits (suc k) zero n h f = absurd (omega arith)
same_digits (suc zero) (suc most) n h f =
    let e : n % 10 ≡ n = omega (arith, f.1) in
    rw e (simp (lt-ltb n 10 f.1))
same_digits (suc (suc k)) (suc most) n h f =
    let least : 10 ^ k * 10 ≤ n = simp unary_clauses at (f.2 (omega arith)) in
    let front : IsDigitCount 10 1 (n / 10) (suc k) = (omega arith, omega (arith, f.1, pow-suc 10 (suc k)), λ _. simp unary_clauses (omega arith)) in
    let more : 10 ≤ n = omega (arith, one-le-pow k 10 (omega arith)) in
    rw (same_digits (suc k) most (n / 10) (omega arith) front) (simp (le-ltb n 10 more, lt-ltb (n % 10) 10 (omega arith)))
