-- The octets of a number that is read are the one form of it: no number has two.
-- Assumes nothing.
use Prim.Native.Nat.{ℕ, zero, suc, ◌+◌, ◌*◌, ◌-◌, ◌/◌, ◌%◌, ◌^◌, ◌<◌, ◌≤◌}
use native.Mathlib.Omega.{arith}
use native.Mathlib.Decide.{dec_le}
use native.Mathlib.Nat.{pow-succ'}
use mathlib.Core.Path.{◌≡◌, refl, ap, ap₂, sym, ◌∙◌}
use mathlib.Core.Bool.{Bool, true, false, cond}
use mathlib.Core.List.{List, [], ◌∷◌, ◌++◌}
use lib.Dec.{ltb, eqb}
use lib.ListN.{length, take}
use borrow.Author.Tests.{ltb-false, lt-ltb, le-ltb, eqb-false, ne_eqb}
use Rattle.octets.specs.Octets.{AllOctets}
use Rattle.std.specs.Prelude.{Option, Some, None}
use Rattle.cutting.specs.Numbers.{found, before, groups, bounded, leading_number, spelled}
use Rattle.cutting.specs.declared.Number.{Number}
use Rattle.cutting.proofs.Numbers.{found-same}

-- what stands behind a group with the top bit set
pub record Behind (low n count : ℕ) (r : Option Number) : Type 0 where
  pub rest : ℕ
  pub octets : ℕ
  pub follows : r ≡ found rest octets
  pub some : eqb rest 0 ≡ false
  pub value : n ≡ low + 128 * rest
  pub longer : count ≡ suc octets

pub behind : (low n count : ℕ) (r : Option Number) → before low r ≡ found n count → Behind low n count r
behind low n count None e = let z : ◌≡◌ {A = ℕ} 0 1 = cc in absurd (omega arith)
behind low n count (Some x) e = by_zero (eqb x.value 0) refl e
  where
    by_zero : (t : Bool) → eqb x.value 0 ≡ t → cond t None (found (low + 128 * x.value) (suc x.octets)) ≡ found n count → Behind low n count (Some x)
    by_zero true z e = let z : ◌≡◌ {A = ℕ} 0 1 = cc in absurd (omega arith)
    by_zero false z e =
        let same = found-same e in
        record { rest = x.value; octets = x.octets; follows = refl; some = z; value = sym same.0; longer = sym same.1 }

pub one-spelling : (most : ℕ) (s : List ℕ) (n count : ℕ) → AllOctets s → groups most s ≡ found n count → take count s ≡ spelled most n
unfolding groups spelled
one-spelling zero s n count o e = let z : ◌≡◌ {A = ℕ} 0 1 = cc in absurd (omega arith)
one-spelling (suc most) [] n count o e = let z : ◌≡◌ {A = ℕ} 0 1 = cc in absurd (omega arith)
one-spelling (suc most) (x ∷ xs) n count o e = by-top (one-spelling most xs) (ltb x 128) refl e
  where
    by-top : ((m k : ℕ) → AllOctets xs → groups most xs ≡ found m k → take k xs ≡ spelled most m) → (t : Bool) → ltb x 128 ≡ t → cond t (found x 1) (before (x - 128) (groups most xs)) ≡ found n count → take count (x ∷ xs) ≡ cond (ltb n 128) (n ∷ []) ((128 + n % 128) ∷ spelled most (n / 128))
    by-top others true t e =
        let same : x ≡ n = (found-same e).0 in
        let one : count ≡ 1 = sym (found-same e).1 in
        rw one (rw (← same) (rw t refl))
    by-top others false t e =
        let b = behind (x - 128) n count (groups most xs) e in
        let top : 128 ≤ x = ltb-false x 128 t in
        let octet : x < 256 = o 0 in
        let some : 1 ≤ b.rest = omega (arith, eqb-false b.rest 0 b.some) in
        let value = b.value in
        let long : ltb n 128 ≡ false = le-ltb n 128 (omega (arith, value)) in
        let group : x ≡ 128 + n % 128 = omega (arith, value) in
        let rest : b.rest ≡ n / 128 = omega (arith, value) in
        rw (b.longer, long) (ap₂ (λ (y : ℕ) (ys : List ℕ). y ∷ ys) group (others b.rest b.octets (λ i. o (suc i)) b.follows ∙ ap (spelled most) rest))

-- ---- a number's form is read back as that number, whatever follows it

-- a last group, and one that others follow
last-back : (most n : ℕ) (rest : List ℕ) → n < 128 → groups (suc most) (spelled (suc most) n ++ rest) ≡ found n (length (spelled (suc most) n))
unfolding groups spelled
last-back most n rest h = let t : ltb n 128 ≡ true = lt-ltb n 128 h in rw t (rw t refl)

more-back : (most n : ℕ) (rest : List ℕ) → 128 ≤ n → groups most (spelled most (n / 128) ++ rest) ≡ found (n / 128) (length (spelled most (n / 128)))
    → groups (suc most) (spelled (suc most) n ++ rest) ≡ found n (length (spelled (suc most) n))
unfolding groups spelled
more-back most n rest h others =
    let long : ltb n 128 ≡ false = le-ltb n 128 h in
    let top : ltb (128 + n % 128) 128 ≡ false = le-ltb (128 + n % 128) 128 (omega arith) in
    let some : eqb (n / 128) 0 ≡ false = ne_eqb (n / 128) 0 (λ e. omega arith) in
    let value : 128 + n % 128 - 128 + 128 * (n / 128) ≡ n = omega arith in
    rw long (rw top (rw others (rw some (ap (λ (k : ℕ). found k (suc (length (spelled most (n / 128))))) value))))

pub spelled_back : (most n : ℕ) (rest : List ℕ) → n < 128 ^ suc most → groups (suc most) (spelled (suc most) n ++ rest) ≡ found n (length (spelled (suc most) n))
spelled_back zero n rest h = last-back zero n rest h
spelled_back (suc most) n rest h = by_size (dec_le 128 n) (spelled_back most (n / 128) rest)
  where
    by_size : Dec (128 ≤ n) → (n / 128 < 128 ^ suc most → groups (suc most) (spelled (suc most) (n / 128) ++ rest) ≡ found (n / 128) (length (spelled (suc most) (n / 128)))) → groups (suc (suc most)) (spelled (suc (suc most)) n ++ rest) ≡ found n (length (spelled (suc (suc most)) n))
    by_size (no l) others = last-back (suc most) n rest (omega arith)
    by_size (yes l) others = more-back (suc most) n rest l (others (omega (arith, pow-succ' 128 (suc most))))

-- ---- the numbers of a queue

pub of-groups : (r : Option Number) (n count : ℕ) → bounded r ≡ found n count → r ≡ found n count
of-groups None n count e = let z : ◌≡◌ {A = ℕ} 0 1 = cc in absurd (omega arith)
of-groups (Some x) n count e = by-bound (ltb 4294967296 x.value) e
  where
    by-bound : (t : Bool) → cond t None (Some x) ≡ found n count → Some x ≡ found n count
    by-bound true e = let z : ◌≡◌ {A = ℕ} 0 1 = cc in absurd (omega arith)
    by-bound false e = e

-- no number has two spellings
pub no-two : (s t : List ℕ) (n i j : ℕ) → AllOctets s → AllOctets t → leading_number s ≡ found n i → leading_number t ≡ found n j → take i s ≡ take j t
unfolding leading_number
no-two s t n i j o p e f =
    one-spelling 5 s n i o (of-groups (groups 5 s) n i e) ∙ sym (one-spelling 5 t n j p (of-groups (groups 5 t) n j f))

-- and each has one
pub has_one : (n : ℕ) (rest : List ℕ) → n ≤ 4294967296 → leading_number (spelled 5 n ++ rest) ≡ found n (length (spelled 5 n))
unfolding leading_number
has_one n rest h =
    ap bounded (spelled_back 4 n rest (omega arith))
    ∙ ap (λ (t : Bool). cond t None (found n (length (spelled 5 n)))) (le-ltb 4294967296 n h)

-- and that is the shortest: k groups of seven bits hold the numbers below 128 ^ k, and it has no more of them than are needed
pub shortest : (most k n : ℕ) → n < 128 ^ suc k → length (spelled most n) ≤ suc k
unfolding spelled
shortest zero k n h = omega arith
shortest (suc most) zero n h = rw (lt-ltb n 128 h) (omega arith)
shortest (suc most) (suc k) n h = by-top (ltb n 128) (shortest most k (n / 128) (omega (arith, pow-succ' 128 (suc k))))
  where
    by-top : (t : Bool) → length (spelled most (n / 128)) ≤ suc k → length (cond t (n ∷ []) ((128 + n % 128) ∷ spelled most (n / 128))) ≤ suc (suc k)
    by-top true rest = omega arith
    by-top false rest = omega arith
