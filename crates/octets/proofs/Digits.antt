-- The octets of a number, and the number of octets: each is the other's inverse.
-- Assumes nothing.
use mathlib.Core.Path.{◌≡◌, refl, ap, ◌∙◌}
use mathlib.Core.List.{List, ◌++◌}
use Prim.Native.Nat.{ℕ, zero, suc, ◌+◌, ◌-◌, ◌*◌, ◌^◌, ◌<◌, ◌%◌}
use native.Mathlib.Nat.{mod-lt, div-add-mod', div-lt_iff_lt-mul, pow-succ'}
use native.Mathlib.Omega.{arith}
use lib.ListN.{length}
use lib.Dec.{lit<}
use lib.Pow.{pow-add}
use Rattle.octets.specs.Octets.{part, be, be_at, digits, top_bit, all_ones, AllOctets}
use Rattle.octets.proofs.Laws.{be-below, be-same, part_length, part-octets, part-front, part-behind}

pub power_pos : (width : ℕ) → 0 < 256 ^ width
power_pos zero = lit< tt
power_pos (suc width) = omega (arith, power_pos width, pow-succ' 256 width)

pub digits-length : (width x : ℕ) → length (digits width x) ≡ width
unfolding digits
digits-length zero x = refl
digits-length (suc width) x = ap suc (digits-length width (x % 256 ^ width))

pub digits-octets : (width x : ℕ) → x < 256 ^ width → AllOctets (digits width x)
unfolding digits
digits-octets zero x h i = lit< tt
digits-octets (suc width) x h zero =
    (div-lt_iff_lt-mul (power_pos width)).1 (omega (arith, pow-succ' 256 width))
digits-octets (suc width) x h (suc i) = digits-octets width (x % 256 ^ width) (mod-lt x (power_pos width)) i

-- a number's octets stand for it
pub be-digits : (width x : ℕ) → x < 256 ^ width → be (digits width x) ≡ x
unfolding digits be
be-digits zero x h = omega arith
be-digits (suc width) x h =
    rw (digits-length width (x % 256 ^ width), be-digits width (x % 256 ^ width) (mod-lt x (power_pos width)))
    (div-add-mod' x (256 ^ width))

-- wherever they are written
pub be_at-digits : (xs ys : List ℕ) (width x : ℕ) → x < 256 ^ width → be_at (xs ++ (digits width x ++ ys)) (1 + length xs) width ≡ x
unfolding be_at
be_at-digits xs ys width x h =
    let here : part (digits width x ++ ys) 1 width ≡ digits width x = rw (digits-length width x) at (part-front (digits width x) ys) in
    ap be (part-behind xs (digits width x ++ ys) 1 width (omega arith) ∙ here) ∙ be-digits width x h

-- the octets of what octets stand for
pub digits-be : (xs : List ℕ) → AllOctets xs → digits (length xs) (be xs) ≡ xs
digits-be xs o =
    let h = be-below xs o in
    be-same (digits (length xs) (be xs)) xs (digits-length (length xs) (be xs)) (digits-octets _ _ h) o (be-digits _ _ h)

pub digits-be_at : (s : List ℕ) (at width : ℕ) → AllOctets s → digits width (be_at s at width) ≡ part s at width
unfolding be_at
digits-be_at s at width o =
    let e = digits-be (part s at width) (part-octets s at width o) in
    rw (part_length s at width) at e

-- ---- the two ways to count: octets and bits

pub power-bits : (width : ℕ) → 256 ^ width ≡ 2 ^ (8 * width)
power-bits zero = refl
power-bits (suc width) =
    let e : 8 * suc width ≡ 8 * width + 8 = omega arith in
    rw (e, pow-add) (omega (arith, pow-succ' 256 width, power-bits width))

-- the top bit is half of what does not fit
pub top-half : (width : ℕ) → 256 ^ suc width ≡ 2 * top_bit (suc width)
top-half width =
    let e : 8 * suc width ≡ 1 + (8 * suc width - 1) = omega arith in
    power-bits (suc width) ∙ ap (λ (n : ℕ). 2 ^ n) e ∙ pow-add 2 1 (8 * suc width - 1)

pub ones-last : (width : ℕ) → suc (all_ones width) ≡ 256 ^ width
ones-last width = omega (arith, power-bits width, power_pos width)
