-- The laws of big-endian numbers, proved once over the number of octets.
-- Assumes nothing.
use mathlib.Core.Path.{◌≡◌, refl, ap, sym, subst⁻¹, ◌∙◌}
use mathlib.Core.List.{List, [], ◌∷◌, ◌++◌}
use Prim.Native.Nat.{ℕ, zero, suc, ◌+◌, ◌*◌, ◌^◌, ◌≤◌, ◌<◌}
use native.Mathlib.Nat.{zero-mul, zero-add, add-mul, mul_assoc, pow-succ', mul-le-mul_right, mul-le-mul_left, le_of_lt, le_antisymm, lt_of_le_of_lt, mul-lt-mul_of_pos_right, suc-add, add-suc, add-zero}
use native.Mathlib.Omega.{arith}
use native.Mathlib.Numerals.{add-one}
use lib.ListN.{length, take, drop, get_or, replicate, length-append, take-append-drop, get_or-append, get_or-eq_default}
use lib.Seq.{get_or-drop, drop-cons, length-take-le, take-append_seam, drop-append_seam}
use lib.Pow.{pow-add, pow_pos}
use lib.Dec.{lit<, ltb}
use borrow.Author.Tests.{ltb-true, ltb-false}
use mathlib.Core.Bool.{Bool, true, false}
use mathlib.Core.Logic.{◌⊎◌, inl, inr, ⊎_elim}
use Rattle.octets.specs.Octets.{octet, part, be, be_at, AllOctets}

-- ---- the octets of a part

-- a part has as many octets as it is said to have, whether or not the section has them
pub part_length : (s : List ℕ) (at width : ℕ) → length (part s at width) ≡ width
unfolding part
part_length s at zero = refl
part_length s at (suc width) = ap suc (part_length s (suc at) width)

-- m + n octets are the first m and the n that follow
pub part-add : (s : List ℕ) (at m n : ℕ) → part s at (m + n) ≡ part s at m ++ part s (at + m) n
unfolding part
part-add s at zero n = rw (zero-add, add-zero)
part-add s at (suc m) n = rw (suc-add, add-suc, ← suc-add) (ap (λ (l : List ℕ). octet s at ∷ l) (part-add s (suc at) m n))

octet-drop : (s : List ℕ) (k at : ℕ) → 1 ≤ at → octet (drop k s) at ≡ octet s (at + k)
octet-drop s k zero h = absurd (omega arith)
octet-drop s k (suc at) h =
    let e : suc at + k ≡ suc (k + at) = omega arith in
    rw (e, get_or-drop)

-- the octets of a part that starts in the middle
pub part-drop : (s : List ℕ) (k at width : ℕ) → 1 ≤ at → part (drop k s) at width ≡ part s (at + k) width
unfolding part
part-drop s k at zero h = refl
part-drop s k at (suc width) h =
    let e : suc at + k ≡ suc (at + k) = omega arith in
    let rest : part (drop k s) (suc at) width ≡ part s (suc at + k) width = part-drop s k (suc at) width (omega arith) in
    λ i. octet-drop s k at h i ∷ (rest ∙ ap (λ (n : ℕ). part s n width) e) i

shifted : (x : ℕ) (s : List ℕ) (at width : ℕ) → part (x ∷ s) (suc (suc at)) width ≡ part s (suc at) width
unfolding part
shifted x s at zero = refl
shifted x s at (suc width) = ap (λ (l : List ℕ). octet s (suc at) ∷ l) (shifted x s (suc at) width)

-- all of a section's octets are the section
pub part-all : (s : List ℕ) → part s 1 (length s) ≡ s
unfolding part
part-all [] = refl
part-all (x ∷ xs) = ap (λ (l : List ℕ). x ∷ l) (shifted x xs 0 (length xs) ∙ part-all xs)

from_next : (s : List ℕ) (end width : ℕ) → end + width ≤ length s → part s (suc end) width ≡ take width (drop end s)
unfolding part
from_next s end zero h = refl
from_next s end (suc width) h =
    let there : end < length s = omega arith in
    rw (drop-cons s end 0) (ap (λ (l : List ℕ). get_or s end 0 ∷ l) (from_next s (suc end) width (omega arith)))

-- octets that are there are a stretch of the section
pub part-take : (s : List ℕ) (end width : ℕ) → end + width ≤ length s → part s (end + 1) width ≡ take width (drop end s)
part-take s end width h = rw add-one (from_next s end width h)

-- of two runs of octets the first
pub part-front : (xs ys : List ℕ) → part (xs ++ ys) 1 (length xs) ≡ xs
part-front xs ys = part-take (xs ++ ys) 0 (length xs) (simp length-append (omega arith)) ∙ take-append_seam xs ys

-- and what stands in the second
pub part-behind : (xs ys : List ℕ) (at width : ℕ) → 1 ≤ at → part (xs ++ ys) (at + length xs) width ≡ part ys at width
part-behind xs ys at width h =
    sym (part-drop (xs ++ ys) (length xs) at width h) ∙ ap (λ (s : List ℕ). part s at width) (drop-append_seam xs ys)

-- what stands in the first: octets that follow make no difference
pub part-ahead : (xs ys : List ℕ) (at width : ℕ) → at + width ≤ length xs + 1 → part (xs ++ ys) at width ≡ part xs at width
unfolding part
part-ahead xs ys at zero h = refl
part-ahead xs ys at (suc width) h =
    let here : octet (xs ++ ys) at ≡ octet xs at = get_or-append (0 ∷ xs) ys 0 at (omega arith) in
    λ i. here i ∷ part-ahead xs ys (suc at) width (omega arith) i

-- past the end there are zeros
pub part-past : (s : List ℕ) (at width : ℕ) → length s < at → part s at width ≡ replicate width 0
unfolding part
part-past s at zero h = refl
part-past s at (suc width) h =
    let none : octet s at ≡ 0 = get_or-eq_default (0 ∷ s) 0 {n = at} (omega arith) in
    λ i. none i ∷ part-past s (suc at) width (omega arith) i

pub octet-below : (s : List ℕ) (at : ℕ) → AllOctets s → octet s at < 256
octet-below s zero o = lit< tt
octet-below s (suc at) o = o at

pub part-octets : (s : List ℕ) (at width : ℕ) → AllOctets s → AllOctets (part s at width)
unfolding part
part-octets s at zero o i = lit< tt
part-octets s at (suc width) o zero = octet-below s at o
part-octets s at (suc width) o (suc i) = part-octets s (suc at) width o i

pub drop-octets : (k : ℕ) (s : List ℕ) → AllOctets s → AllOctets (drop k s)
drop-octets k s o i = rw get_or-drop (o (k + i))

pub take-octets : (k : ℕ) (s : List ℕ) → AllOctets s → AllOctets (take k s)
take-octets zero s o i = lit< tt
take-octets (suc k) [] o i = lit< tt
take-octets (suc k) (x ∷ s) o zero = o 0
take-octets (suc k) (x ∷ s) o (suc i) = take-octets k s (λ j. o (suc j)) i

-- ---- their number

-- two runs of octets, one after the other
pub be-append : (xs ys : List ℕ) → be (xs ++ ys) ≡ be xs * 256 ^ length ys + be ys
unfolding be
be-append [] ys = rw (zero-mul, zero-add)
be-append (x ∷ xs) ys =
    rw
    (be-append xs ys, length-append xs ys, pow-add 256 (length xs) (length ys), add-mul (x * 256 ^ length xs) (be xs) (256 ^ length ys))
    (omega (arith, mul_assoc x (256 ^ length xs) (256 ^ length ys)))

-- k octets stand for a number below 256 ^ k
pub be-below : (xs : List ℕ) → AllOctets xs → be xs < 256 ^ length xs
unfolding be
be-below [] h = omega arith
be-below (x ∷ xs) h =
    let x≤ : x ≤ 255 = omega (arith, h 0) in
    omega (arith, be-below xs (λ i. h (suc i)), pow-succ' 256 (length xs), mul-le-mul_right (256 ^ length xs) x≤)

pub be_at-below : (s : List ℕ) (at width : ℕ) → AllOctets s → be_at s at width < 256 ^ width
unfolding be_at
be_at-below s at width o =
    let below = be-below (part s at width) (part-octets s at width o) in
    rw (part_length s at width) at below

-- a field of m + n octets is its first m and its last n
pub be_at-add : (s : List ℕ) (at m n : ℕ) → be_at s at (m + n) ≡ be_at s at m * 256 ^ n + be_at s (at + m) n
unfolding be_at
be_at-add s at m n = rw (part-add, be-append, part_length)

-- a field of one octet is that octet
pub be_at-one : (s : List ℕ) (at : ℕ) → be_at s at 1 ≡ octet s at
unfolding be_at be part
be_at-one s at = omega arith

-- past the end there are zeros
pub be_at-past : (s : List ℕ) (at width : ℕ) → length s < at → be_at s at width ≡ 0
unfolding be_at be part
be_at-past s at zero h = refl
be_at-past s at (suc width) h =
    let z : octet s at ≡ 0 = get_or-eq_default (0 ∷ s) 0 {n = at} (omega arith) in
    let r : be (part s (suc at) width) ≡ 0 = be_at-past s (suc at) width (omega arith) in
    rw (z, zero-mul, zero-add) r

-- octets of a part that starts in the middle
pub be_at-drop : (s : List ℕ) (k at width : ℕ) → 1 ≤ at → be_at (drop k s) at width ≡ be_at s (at + k) width
unfolding be_at
be_at-drop s k at width h = ap be (part-drop s k at width h)

-- octets that stand before others
pub be_at-ahead : (xs ys : List ℕ) (at width : ℕ) → at + width ≤ length xs + 1 → be_at (xs ++ ys) at width ≡ be_at xs at width
unfolding be_at
be_at-ahead xs ys at width h = ap be (part-ahead xs ys at width h)

-- octets of the first n
pub be_at-take : (s : List ℕ) (n at width : ℕ) → n ≤ length s → at + width ≤ n + 1 → be_at (take n s) at width ≡ be_at s at width
be_at-take s n at width l h =
    sym (be_at-ahead (take n s) (drop n s) at width (omega (arith, length-take-le n s l)))
    ∙ ap (λ (r : List ℕ). be_at r at width) (take-append-drop n s)

-- of two equal numbers the first octet of one is no more than that of the other
first-no-more : (p a b x y : ℕ) → x < p → y < p → a * p + x ≡ b * p + y → a ≤ b
first-no-more p a b x y hx hy e = ⊎_elim (λ h. h) (λ h. absurd (omega (arith, mul-le-mul_right p h))) (le-or a b)
  where
    le-or : (a b : ℕ) → (a ≤ b) ⊎ (suc b ≤ a)
    le-or a b = by (ltb b a) refl
      where
        by : (t : Bool) → ltb b a ≡ t → (a ≤ b) ⊎ (suc b ≤ a)
        by true h = inr (ltb-true b a h)
        by false h = inl (ltb-false b a h)

-- equal numbers of equally many octets have equal octets
pub be-same : (xs ys : List ℕ) → length xs ≡ length ys → AllOctets xs → AllOctets ys → be xs ≡ be ys → xs ≡ ys
unfolding be
be-same [] [] l ox oy e = refl
be-same [] (y ∷ ys) l ox oy e = absurd (omega arith)
be-same (x ∷ xs) [] l ox oy e = absurd (omega arith)
be-same (x ∷ xs) (y ∷ ys) l ox oy e =
    let n : length xs ≡ length ys = omega arith in
    let p = 256 ^ length ys in
    let rx : be xs < p = rw n at (be-below xs (λ i. ox (suc i))) in
    let ry : be ys < p = be-below ys (λ i. oy (suc i)) in
    let f : x * p + be xs ≡ y * p + be ys = rw n at e in
    let h : x ≡ y = le_antisymm (first-no-more p x y (be xs) (be ys) rx ry f) (first-no-more p y x (be ys) (be xs) ry rx (sym f)) in
    let g : x * p + be xs ≡ x * p + be ys = rw (← h) at f in
    let r : be xs ≡ be ys = omega arith in
    λ i. h i ∷ be-same xs ys n (λ k. ox (suc k)) (λ k. oy (suc k)) r i

-- the product of a number of j bits and one of k bits
pub product-below : (j k a b : ℕ) → a < 2 ^ j → b < 2 ^ k → a * b < 2 ^ (j + k)
product-below j k a b ha hb =
    subst⁻¹ (λ (n : ℕ). a * b < n) (pow-add 2 j k)
    (lt_of_le_of_lt (mul-le-mul_left a (le_of_lt hb)) (mul-lt-mul_of_pos_right ha (pow_pos k)))
