-- Sign and magnitude, once for every octet count, and the machine's 32 bits that hold it.
-- Assumes nothing.
use mathlib.Core.Path.{◌≡◌, refl, ap, sym, subst, ◌∙◌}
use mathlib.Core.Bool.{Bool, true, false, cond}
use Prim.Native.Nat.{ℕ, zero, suc, ◌+◌, ◌-◌, ◌*◌, ◌^◌, ◌≤◌, ◌<◌}
use native.Mathlib.Omega.{arith}
use lib.IntN.{ℤ, pos, negsuc, neg_ℤ, nat_abs, ◌-ℤ◌, ◌+ℤ◌, ◌*ℤ◌, +ℤ_idl}
use lib.Signed.{mag}
use lib.Dec.{ltb}
use borrow.Author.Tests.{lt-ltb, le-ltb, ltb-true, ltb-false}
use mir.Syntax.{w32, w64}
use mir.Val.{SFits, to_z, of_z}
use mir.ValLaws.{to_z-of_z, to_z_pos}
use Rattle.octets.specs.Octets.{sign_of, top_bit, real_year}

-- ---- the two halves

pub sign_low : (width raw : ℕ) → raw < top_bit width → sign_of width raw ≡ pos raw
unfolding sign_of
sign_low width raw h = simp (lt-ltb _ _ h)

pub sign_high : (width raw : ℕ) → top_bit width ≤ raw → sign_of width raw ≡ neg_ℤ (pos (raw - top_bit width))
unfolding sign_of
sign_high width raw h = simp (le-ltb _ _ h)

-- a negative zero reads as 0
pub negative-zero : (width : ℕ) → sign_of width (top_bit width) ≡ pos 0
negative-zero width =
    let e : top_bit width - top_bit width ≡ 0 = omega arith in
    sign_high width (top_bit width) (omega arith) ∙ ap (λ (n : ℕ). neg_ℤ (pos n)) e

-- ---- sizes

abs_neg : (m : ℕ) → nat_abs (neg_ℤ (pos m)) ≡ m
abs_neg zero = refl
abs_neg (suc m) = refl

pub abs-mul : (k : ℕ) (z : ℤ) → nat_abs (pos k *ℤ z) ≡ k * nat_abs z
abs-mul k (pos n) = refl
abs-mul k (negsuc n) = abs_neg (k * suc n)

abs-sub : (a b : ℕ) (t : Bool) → nat_abs (cond t (negsuc (b - suc a)) (pos (a - b))) ≤ a + suc b
abs-sub a b true = omega arith
abs-sub a b false = omega arith

pub abs-add : (a b : ℤ) → nat_abs (a +ℤ b) ≤ suc (nat_abs a + nat_abs b)
abs-add (pos a) (pos b) = omega arith
abs-add (pos a) (negsuc b) = omega (arith, abs-sub a (suc b) (ltb a (suc b)))
abs-add (negsuc a) (pos b) = omega (arith, abs-sub b (suc a) (ltb b (suc a)))
abs-add (negsuc a) (negsuc b) = omega arith

-- the size is below the weight of the top bit
pub sign-abs : (width raw : ℕ) → raw < 2 * top_bit width → nat_abs (sign_of width raw) < top_bit width
unfolding sign_of
sign-abs width raw h = by-half (ltb raw (top_bit width)) refl
  where
    by-half : (t : Bool) → ltb raw (top_bit width) ≡ t → nat_abs (cond t (pos raw) (neg_ℤ (pos (raw - top_bit width)))) < top_bit width
    by-half true e = ltb-true _ _ e
    by-half false e = rw (abs_neg (raw - top_bit width)) (omega (arith, ltb-false raw (top_bit width) e))

-- ---- in 32 bits

pub abs-fits : (z : ℤ) → nat_abs z < 2 ^ 31 → SFits w32 z
abs-fits (pos n) h = record { sfits = h }
abs-fits (negsuc n) h = record { sfits = omega arith }

-- a signed number that a call gave, as it is read back from its bits
pub kept32 : (z : ℤ) → mag z < 2 ^ 31 → to_z w32 (of_z w32 z) ≡ z
kept32 z h = to_z-of_z w32 z (record { sfits = h })

pub kept64 : (z : ℤ) → mag z < 2 ^ 63 → to_z w64 (of_z w64 z) ≡ z
kept64 z h = to_z-of_z w64 z (record { sfits = h })

-- one of 32 bits in 64, as it is read back
abbrev pub wide : ℤ → ℤ
wide z = to_z w64 (of_z w64 (to_z w32 (of_z w32 z)))

pub wide-kept : (z : ℤ) → mag z < 2 ^ 31 → wide z ≡ z
wide-kept z h = ap (λ (x : ℤ). to_z w64 (of_z w64 x)) (kept32 z h) ∙ kept64 z (omega arith)

pub wide_fits : (z : ℤ) → mag z < 2 ^ 31 → SFits w64 (to_z w32 (of_z w32 z))
wide_fits z h = rw (kept32 z h) (record { sfits = omega arith })

-- the machine's negation of a size
module _ (m : ℕ) (h : m < 2 ^ 31) where
  negated : pos 0 -ℤ to_z w32 m ≡ neg_ℤ (pos m)
  negated = ap (λ (z : ℤ). pos 0 -ℤ z) (to_z_pos w32 m h) ∙ +ℤ_idl (neg_ℤ (pos m))

  pub negation-fits : SFits w32 (pos 0 -ℤ to_z w32 m)
  negation-fits = subst (SFits w32) (sym negated) (abs-fits (neg_ℤ (pos m)) (rw (abs_neg m) h))

  pub negation-is : to_z w32 (of_z w32 (pos 0 -ℤ to_z w32 m)) ≡ neg_ℤ (pos m)
  negation-is = to_z-of_z w32 _ negation-fits ∙ negated

-- the real year, as the machine makes it of two numbers of 16 bits
module _ (year offset : ℤ) (hy : nat_abs year < 2 ^ 15) (ho : nat_abs offset < 2 ^ 15) where
  back : (z : ℤ) → nat_abs z < 2 ^ 15 → to_z w32 (of_z w32 z) ≡ z
  back z h = to_z-of_z w32 z (abs-fits z (omega arith))

  shift : to_z w32 10000 *ℤ to_z w32 (of_z w32 offset) ≡ pos 10000 *ℤ offset
  shift = ap (λ (z : ℤ). pos 10000 *ℤ z) (back offset ho)

  pub shift_fits : SFits w32 (to_z w32 10000 *ℤ to_z w32 (of_z w32 offset))
  shift_fits =
      subst (SFits w32) (sym shift) (abs-fits (pos 10000 *ℤ offset) (omega (arith, abs-mul 10000 offset)))

  shifted : to_z w32 (of_z w32 year) +ℤ to_z w32 (of_z w32 (to_z w32 10000 *ℤ to_z w32 (of_z w32 offset))) ≡ real_year year offset
  shifted = λ i. back year hy i +ℤ (to_z-of_z w32 _ shift_fits ∙ shift) i

  pub year-fits : SFits w32 (to_z w32 (of_z w32 year) +ℤ to_z w32 (of_z w32 (to_z w32 10000 *ℤ to_z w32 (of_z w32 offset))))
  year-fits =
      subst (SFits w32) (sym shifted)
      (abs-fits (real_year year offset) (omega (arith, abs-add year (pos 10000 *ℤ offset), abs-mul 10000 offset)))

  pub year-is : to_z w32 (of_z w32 (to_z w32 (of_z w32 year) +ℤ to_z w32 (of_z w32 (to_z w32 10000 *ℤ to_z w32 (of_z w32 offset))))) ≡ real_year year offset
  year-is = to_z-of_z w32 _ year-fits ∙ shifted
