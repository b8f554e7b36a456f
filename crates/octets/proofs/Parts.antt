-- The octets of a part one after the other, and the number of two, four or eight of them as the machine makes it.
-- Assumes nothing.
use mathlib.Core.Path.{◌≡◌, refl, sym, ap, ◌∙◌}
use mathlib.Core.List.{List, [], ◌∷◌, ◌++◌}
use Prim.Native.Nat.{ℕ, zero, suc, ◌+◌, ◌-◌, ◌*◌, ◌^◌, ◌≤◌, ◌<◌, min}
use native.Mathlib.Omega.{arith}
use native.Mathlib.Numerals.{add-one}
use lib.ListN.{length, take, drop, set, get_or}
use lib.Seq.{take-suc-set}
use mathlib.Core.Bool.{Bool, true, false}
use lib.Dec.{leb}
use borrow.Author.Tests.{leb-true, leb-false}
use Rattle.std.proofs.Math.Nat.{min-eq_left, min-eq_right}
use mir.Syntax.{w16, w32, w64}
use Rattle.std.specs.Int.{from_be_bytes}
use Rattle.octets.specs.Octets.{octet, part, be, be_at}
use Rattle.octets.proofs.Laws.{part-add, part-take, be_at-one, be_at-past}

-- one more octet
pub more : (s p : List ℕ) (at i x : ℕ) → i < length p → x ≡ be_at s (at + i) 1 → take i p ≡ part s at i → take (i + 1) (set p i x) ≡ part s at (i + 1)
unfolding part
more s p at i x h e t =
    ap (λ (n : ℕ). take n (set p i x)) (add-one i)
    ∙ take-suc-set p i x h
    ∙ (λ k. t k ++ ((e ∙ be_at-one s (at + i)) k ∷ []))
    ∙ sym (part-add s at i 1)

-- octet `at`, in the list from index 0
pub octet_number : (s : List ℕ) (at : ℕ) → be_at s at 1 ≡ get_or (0 ∷ s) at 0
octet_number = be_at-one

-- two octets, four and eight
pub of_two : (s : List ℕ) (at : ℕ) → from_be_bytes w16 (part s at 2) ≡ be_at s at 2
unfolding be_at be part
of_two s at = omega arith

pub of_four : (s : List ℕ) (at : ℕ) → from_be_bytes w32 (part s at 4) ≡ be_at s at 4
unfolding be_at be part
of_four s at = omega arith

pub of_eight : (s : List ℕ) (at : ℕ) → from_be_bytes w64 (part s at 8) ≡ be_at s at 8
unfolding be_at be part
of_eight s at = omega arith

-- past the end it is the same where a number of the octet has no room
pub saturated : (s : List ℕ) (at i n : ℕ) → length s < n → be_at s (min (at + i) n) 1 ≡ be_at s (at + i) 1
saturated s at i n h = by (leb (at + i) n) refl
  where
    by : (t : Bool) → leb (at + i) n ≡ t → be_at s (min (at + i) n) 1 ≡ be_at s (at + i) 1
    by true e = ap (λ (k : ℕ). be_at s k 1) (min-eq_left (leb-true _ _ e))
    by false e =
        let far : n < at + i = leb-false _ _ e in
        ap (λ (k : ℕ). be_at s k 1) (min-eq_right (omega (arith, far))) ∙ be_at-past s n 1 h ∙ sym (be_at-past s (at + i) 1 (omega (arith, h, far)))

-- octets that are all there are a stretch of the list
pub all_there : (s : List ℕ) (at n : ℕ) → 1 ≤ at → at - 1 + n ≤ length s → take n (drop (at - 1) s) ≡ part s at n
all_there s at n h there = sym (part-take s (at - 1) n there) ∙ ap (λ (k : ℕ). part s k n) (omega (arith, h))
