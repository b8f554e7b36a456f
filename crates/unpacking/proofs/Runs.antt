-- The laws of runs of bits.
-- Assumes nothing.
use mathlib.Core.Path.{◌≡◌, ◌∙◌, refl}
use mathlib.Core.List.{List}
use Prim.Native.Nat.{ℕ, zero, suc, ◌+◌, ◌-◌, ◌*◌, ◌/◌, ◌%◌, ◌^◌, ◌≤◌, ◌<◌}
use native.Mathlib.Nat.{add-zero, add-suc, add_assoc, add-mul, mul_assoc, pow-suc, div-one, div-div-eq-div-mul, lt_of_lt_of_le}
use native.Mathlib.Omega.{arith}
use lib.ListN.{get_or}
use lib.Pow.{high, low, pow_mono}
use lib.Dec.{lit≤}
use Rattle.unpacking.specs.Packed.{bit_at, bits_from}

pub bit_below : (xs : List ℕ) (k : ℕ) → bit_at xs k < 2
unfolding bit_at
bit_below xs k = omega arith

-- w bits stand for a number below 2 ^ w
pub bits_below : (xs : List ℕ) (from w : ℕ) → bits_from xs from w < 2 ^ w
unfolding bits_from
bits_below xs from zero = omega arith
bits_below xs from (suc w) = omega (arith, bits_below xs from w, bit_below xs (from + w), pow-suc 2 w)

-- the bits of octet q, one by one
pub bit_of : (xs : List ℕ) (q j : ℕ) → j < 8 → bit_at xs (8 * q + j) ≡ get_or xs q 0 / 2 ^ (7 - j) % 2
unfolding bit_at
bit_of xs q j h =
    let d : (8 * q + j) / 8 ≡ q = omega arith in
    let m : (8 * q + j) % 8 ≡ j = omega arith in
    rw (d, m)

-- a run of at most k bits is below 2 ^ k
pub bits_under : (xs : List ℕ) (from w k : ℕ) → w ≤ k → bits_from xs from w < 2 ^ k
bits_under xs from w k h = lt_of_lt_of_le (bits_below xs from w) (pow_mono h)

-- runs of the same bits, wherever they stand
pub bits_same : (xs ys : List ℕ) (from to w : ℕ) → ((k : ℕ) → k < w → bit_at xs (from + k) ≡ bit_at ys (to + k)) → bits_from xs from w ≡ bits_from ys to w
unfolding bits_from
bits_same xs ys from to zero h = refl
bits_same xs ys from to (suc w) h = rw (bits_same xs ys from to w (λ k l. h k (omega arith)), h w (omega arith))

-- how large bits and runs of bits are
pub ruleset small = (bit_below, bits_under)

-- number i starts where those before it end
pub next_place : (i bits : ℕ) → (i + 1) * bits ≡ i * bits + bits
next_place i bits = omega (arith, add-mul i 1 bits)

-- ---- two runs, one after the other

both_runs : (xs : List ℕ) (from v w : ℕ) → bits_from xs from (v + w) ≡ bits_from xs from v * 2 ^ w + bits_from xs (from + v) w
unfolding bits_from
both_runs xs from v zero = rw add-zero (omega arith)
both_runs xs from v (suc w) =
    rw (add-suc, both_runs xs from v w, ← add_assoc from v w, pow-suc 2 w, ← mul_assoc (bits_from xs from v) (2 ^ w) 2)
    (omega arith)

-- the first v and the last w bits of a run
pub first-bits : (xs : List ℕ) (from v w : ℕ) → bits_from xs from (v + w) / 2 ^ w ≡ bits_from xs from v
first-bits xs from v w = rw (both_runs xs from v w) (high (bits_from xs from v) w (bits_below xs (from + v) w))

pub last-bits : (xs : List ℕ) (from v w : ℕ) → bits_from xs from (v + w) % 2 ^ w ≡ bits_from xs (from + v) w
last-bits xs from v w = rw (both_runs xs from v w) (low (bits_from xs from v) w (bits_below xs (from + v) w))

-- ---- octets as runs

octet-top : (xs : List ℕ) (q j : ℕ) → get_or xs q 0 < 256 → j ≤ 8 → bits_from xs (8 * q) j ≡ get_or xs q 0 / 2 ^ (8 - j)
unfolding bits_from
octet-top xs q zero h l = omega arith
octet-top xs q (suc j) h l =
    let x = get_or xs q 0 in
    let e₁ : 8 - j ≡ suc (7 - j) = omega arith in
    let e₂ : 8 - suc j ≡ 7 - j = omega arith in
    rw (octet-top xs q j h (omega arith), bit_of xs q j l, e₁, e₂, pow-suc 2 (7 - j), ← div-div-eq-div-mul x (2 ^ (7 - j)) 2)
    (omega arith)

-- a run that ends with an octet, and the octet behind it
pub octet-more : (xs : List ℕ) (from w q : ℕ) → from + w ≡ 8 * q → get_or xs q 0 < 256 → bits_from xs from (w + 8) ≡ bits_from xs from w * 256 + get_or xs q 0
octet-more xs from w q e h = rw (both_runs xs from w 8, e, octet-top xs q 8 h (lit≤ tt) ∙ div-one (get_or xs q 0))
