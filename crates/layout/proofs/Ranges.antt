-- What a field's test says of its number, and back.
-- Assumes nothing.
use mathlib.Core.Path.{◌≡◌, refl}
use mathlib.Core.Bool.{Bool, true, false, not, cond, ◌&&◌, ◌||◌}
use mathlib.Core.Logic.{◌⊎◌, inl, inr}
use Prim.Native.Nat.{ℕ, suc, ◌≤◌}
use lib.Dec.{leb, eqb}
use native.Mathlib.Omega.{arith}
use borrow.Author.Tests.{leb-true, le-leb, eqb-true, eqb-false, eq-eqb, ne_eqb, not-true, not-false}
use Rattle.layout.specs.Fields.{between}

pub both_hold : (a b : Bool) → (a && b) ≡ true → (a ≡ true) × (b ≡ true)
both_hold true true e = (e, e)
both_hold true false e = let z : ◌≡◌ {A = ℕ} 0 1 = cc in absurd (omega arith)
both_hold false b e = let z : ◌≡◌ {A = ℕ} 0 1 = cc in absurd (omega arith)

pub either-holds : (a b : Bool) → (a || b) ≡ true → (a ≡ true) ⊎ (b ≡ true)
either-holds true b e = inl refl
either-holds false b e = inr e

pub between_in : (low high x : ℕ) → between low high x ≡ true → (low ≤ x) × (x ≤ high)
unfolding between
between_in low high x e = let p = both_hold (leb low x) (leb x high) e in (leb-true _ _ p.0, leb-true _ _ p.1)

pub in_between : (low high x : ℕ) → (low ≤ x) × (x ≤ high) → between low high x ≡ true
unfolding between
in_between low high x h = rw (le-leb low x h.0, le-leb x high h.1)

-- two numbers that a test tells apart, or does not
pub test-differs : (m n : ℕ) → not (eqb m n) ≡ true → m ≡ n → ⊥
test-differs m n e = eqb-false m n (not-true _ e)

pub differs-test : (m n : ℕ) → (m ≡ n → ⊥) → not (eqb m n) ≡ true
differs-test m n h = rw (ne_eqb m n h)

pub test-same : (m n : ℕ) → not (eqb m n) ≡ false → m ≡ n
test-same m n e = eqb-true m n (not-false _ e)

pub same_test : (m n : ℕ) → m ≡ n → not (eqb m n) ≡ false
same_test m n e = rw (eq-eqb m n e)

-- a number by which a test says that it holds, where 0 says that it does not
pub test-unmet : (n : ℕ) (t : Bool) → cond t (suc n) 0 ≡ 0 → t ≡ false
test-unmet n true e = absurd (omega arith)
test-unmet n false e = refl
