-- The texts of numbers: how long they are, and that no two numbers have the same.
-- Assumes nothing.
use mathlib.Core.Path.{◌≡◌, refl, ap, sym, ◌∙◌}
use mathlib.Core.Bool.{Bool, true, false, cond}
use mathlib.Core.List.{List, [], ◌∷◌, ◌++◌}
use Prim.Native.Nat.{ℕ, zero, suc, ◌+◌, ◌*◌, ◌-◌, ◌/◌, ◌%◌, ◌^◌, ◌≤◌, ◌<◌}
use native.Mathlib.Nat.{pow-suc}
use native.Mathlib.Omega.{arith}
use lib.Dec.{ltb}
use lib.IntN.{ℤ, pos, negsuc}
use lib.ListN.{length, get_or, length-append}
use lib.Signed.{mag}
use borrow.Author.Tests.{lt-ltb}
use Rattle.text.specs.Text.{digits_in, decimal, whole_number}

-- ---- lengths

-- all digits but the last, and the last
one_more : (most k n : ℕ) → length (digits_in most (n / 10)) ≤ k → length (digits_in (suc most) n) ≤ suc k
unfolding digits_in
one_more most k n front = by_ten (ltb n 10)
  where
    by_ten : (b : Bool) → length (cond b ((48 + n) ∷ []) (digits_in most (n / 10) ++ ((48 + n % 10) ∷ []))) ≤ suc k
    by_ten true = omega arith
    by_ten false = simp length-append (omega arith)

short : (most k n : ℕ) → 1 ≤ k → n < 10 ^ k → length (digits_in most n) ≤ k
unfolding digits_in
short zero k n some h = omega arith
short (suc most) zero n some h = absurd (omega arith)
short (suc most) (suc zero) n some h = simp (lt-ltb n 10 h) (omega arith)
short (suc most) (suc (suc k)) n some h = one_more most (suc k) n (short most (suc k) (n / 10) (omega arith) (omega (arith, pow-suc 10 (suc k))))

within : (most n : ℕ) → length (digits_in most n) ≤ most
unfolding digits_in
within zero n = omega arith
within (suc most) n = one_more most most n (within most (n / 10))

-- the text of any number has at most 20 digits, and of a signed one a sign before them
pub decimal-most : (n : ℕ) → length (decimal n) ≤ 20
decimal-most n = within 20 n

pub whole-number-most : (z : ℤ) → length (whole_number z) ≤ 21
whole-number-most (pos n) = omega (arith, decimal-most n)
whole-number-most (negsuc n) = omega (arith, decimal-most (suc n))

-- a number below a power of ten has no more digits than that power has zeros
pub decimal-short : (k n : ℕ) → 1 ≤ k → n < 10 ^ k → length (decimal n) ≤ k
decimal-short k n some h = short 20 k n some h

-- ---- read back

-- the number that digits say, behind those that were read already
abbrev value : ℕ → List ℕ → ℕ
value read [] = read
value read (c ∷ t) = value (read * 10 + (c - 48)) t

value-last : (read : ℕ) (t : List ℕ) (c : ℕ) → value read (t ++ (c ∷ [])) ≡ value read t * 10 + (c - 48)
value-last read [] c = refl
value-last read (d ∷ t) c = value-last (read * 10 + (d - 48)) t c

value-of-digits : (most n : ℕ) → n < 10 ^ most → value 0 (digits_in most n) ≡ n
unfolding digits_in
value-of-digits zero n h = omega arith
value-of-digits (suc most) n h = by_ten (ltb n 10) (value-of-digits most (n / 10) (omega (arith, pow-suc 10 most)))
  where
    by_ten : (b : Bool) → value 0 (digits_in most (n / 10)) ≡ n / 10 → value 0 (cond b ((48 + n) ∷ []) (digits_in most (n / 10) ++ ((48 + n % 10) ∷ []))) ≡ n
    by_ten true front = omega arith
    by_ten false front = value-last 0 (digits_in most (n / 10)) (48 + n % 10) ∙ rw front (omega arith)

-- no two numbers below 10 ^ 20 have the same text
pub decimal-once : (m n : ℕ) → m < 10 ^ 20 → n < 10 ^ 20 → decimal m ≡ decimal n → m ≡ n
decimal-once m n hm hn e = sym (value-of-digits 20 m hm) ∙ ap (value 0) e ∙ value-of-digits 20 n hn

-- a digit is no minus sign
first-digit : (most n : ℕ) → 48 ≤ get_or (digits_in most n) 0 48
unfolding digits_in
first-digit zero n = omega arith
first-digit (suc most) n = by_ten (ltb n 10) (digits_in most (n / 10)) (first-digit most (n / 10))
  where
    by_ten : (b : Bool) (t : List ℕ) → 48 ≤ get_or t 0 48 → 48 ≤ get_or (cond b ((48 + n) ∷ []) (t ++ ((48 + n % 10) ∷ []))) 0 48
    by_ten true t h = omega arith
    by_ten false [] h = omega arith
    by_ten false (c ∷ t) h = h

unsigned : (n : ℕ) (t : List ℕ) → decimal n ≡ 45 ∷ t → ⊥
unsigned n t e = omega (arith, first-digit 20 n, ap (λ (l : List ℕ). get_or l 0 48) e)

-- no two signed numbers of 32 bits have the same text
pub whole-number-once : (y z : ℤ) → mag y < 2 ^ 31 → mag z < 2 ^ 31 → whole_number y ≡ whole_number z → y ≡ z
whole-number-once (pos m) (pos n) hm hn e = ap pos (decimal-once m n (omega arith) (omega arith) e)
whole-number-once (pos m) (negsuc n) hm hn e = absurd (unsigned m (decimal (suc n)) e)
whole-number-once (negsuc m) (pos n) hm hn e = absurd (unsigned n (decimal (suc m)) (sym e))
whole-number-once (negsuc m) (negsuc n) hm hn e =
    let same : decimal (suc m) ≡ decimal (suc n) = cc in
    let one : m ≡ n = omega (arith, decimal-once (suc m) (suc n) (omega arith) (omega arith) same) in ap negsuc one
