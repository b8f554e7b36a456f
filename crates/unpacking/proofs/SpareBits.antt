-- Which bits n numbers depend on: the first n x bits alone, so that spare bits are not looked at; and octets that are missing count as 0.
-- Assumes nothing.
use mathlib.Core.Path.{◌≡◌, refl}
use mathlib.Core.List.{List, [], ◌∷◌, ◌++◌}
use Prim.Native.Nat.{ℕ, zero, suc, ◌+◌, ◌*◌, ◌/◌, ◌≤◌, ◌<◌}
use native.Mathlib.Nat.{mul-le-mul_right}
use native.Mathlib.Omega.{arith}
use lib.ListN.{get_or, replicate}
use Rattle.lent.proofs.Rows.{each_same}
use Rattle.unpacking.specs.Packed.{bit_at, packed_at, unpacked}
use Rattle.unpacking.proofs.Runs.{bits_same, next_place}

pub spare : (bits n : ℕ) (xs ys : List ℕ) → ((k : ℕ) → k < n * bits → bit_at xs k ≡ bit_at ys k) → unpacked bits n xs ≡ unpacked bits n ys
unfolding unpacked packed_at
spare bits n xs ys h = each_same 0 (packed_at bits xs) (packed_at bits ys) n (λ j l. bits_same xs ys (j * bits) (j * bits) bits (λ k m. h (j * bits + k) (before j k l m)))
  where
    before : (j k : ℕ) → j < n → k < bits → j * bits + k < n * bits
    before j k l m =
        let more : j + 1 ≤ n = omega arith in
        omega (arith, next_place j bits, mul-le-mul_right bits more)

-- ---- octets that are missing count as 0: it makes no difference whether they do or zeros stand there

only-zeros : (k q : ℕ) → get_or {A = ℕ} (replicate k 0) q 0 ≡ 0
only-zeros zero q = refl
only-zeros (suc k) zero = refl
only-zeros (suc k) (suc q) = only-zeros k q

zeros-behind : (xs : List ℕ) (k q : ℕ) → get_or (xs ++ replicate k 0) q 0 ≡ get_or xs q 0
zeros-behind [] k q = only-zeros k q
zeros-behind (x ∷ xs) k zero = refl
zeros-behind (x ∷ xs) k (suc q) = zeros-behind xs k q

pub missing-octets : (bits n k : ℕ) (xs : List ℕ) → unpacked bits n (xs ++ replicate k 0) ≡ unpacked bits n xs
unfolding bit_at
missing-octets bits n k xs = spare bits n (xs ++ replicate k 0) xs (λ j l. rw (zeros-behind xs k (j / 8)))
