-- A year of 32 bits, and the number of four octets that stands for it: each is the other's, in the machine's numbers too.
-- Assumes nothing.
use mathlib.Core.Path.{◌≡◌, refl, ap, ◌∙◌}
use mathlib.Core.Bool.{Bool, true, false, cond}
use Prim.Native.Nat.{ℕ, suc, ◌-◌, ◌^◌, ◌<◌}
use native.Mathlib.Omega.{arith}
use lib.Dec.{T, ltb}
use lib.IntN.{ℤ, pos, negsuc, ◌+ℤ◌, ◌-ℤ◌, +ℤ-neg_ℤ_cancel}
use lib.Signed.{mag, non_neg, pos-nat_abs}
use borrow.Author.Tests.{ltb-true, ltb-false, le-ltb}
use Rattle.shelf_octets.specs.ShelfOctets.{year_in, raw_year}

-- ---- the numbers

pub year-small : (raw : ℕ) → raw < 2 ^ 32 → mag (year_in raw) < 2 ^ 31
year-small raw h = by-half (ltb raw (2 ^ 31)) refl
  where
    by-half : (t : Bool) → ltb raw (2 ^ 31) ≡ t → mag (cond t (negsuc (2 ^ 31 - suc raw)) (pos (raw - 2 ^ 31))) < 2 ^ 31
    by-half true e = omega (arith, ltb-true raw (2 ^ 31) e)
    by-half false e = omega (arith, ltb-false raw (2 ^ 31) e)

pub raw-natural : (year : ℤ) → mag year < 2 ^ 31 → T (non_neg (year +ℤ pos (2 ^ 31))) × (raw_year year < 2 ^ 32)
raw-natural (pos n) h = (tt, omega arith)
raw-natural (negsuc n) h = rw (le-ltb (2 ^ 31) (suc n) (omega arith)) (tt, omega arith)

pub year-back : (year : ℤ) → mag year < 2 ^ 31 → year_in (raw_year year) ≡ year
year-back year h =
    ap (λ (z : ℤ). z -ℤ pos (2 ^ 31)) (pos-nat_abs (year +ℤ pos (2 ^ 31)) (raw-natural year h).0) ∙ +ℤ-neg_ℤ_cancel year (pos (2 ^ 31))
