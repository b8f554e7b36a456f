-- A template's word spells its fields: the numbers that the letters find in a section are those of the record.
-- Assumes nothing.
use Prim.Native.Nat.{ℕ, suc, ◌+◌, ◌^◌, ◌≤◌, ◌<◌}
use native.Mathlib.Omega.{arith}
use native.Mathlib.Nat.{add_assoc, add-zero}
use mathlib.Core.Path.{◌≡◌, refl, sym, ap, ◌∙◌}
use mathlib.Core.Bool.{Bool, true, false, cond, ◌&&◌, true≢false}
use mathlib.Core.List.{List, [], ◌∷◌, ◌++◌}
use lib.Dec.{eqb}
use lib.IntN.{ℤ, pos}
use lib.ListN.{length}
use borrow.Author.Tests.{eqb-true}
use mir.Syntax.{w64}
use mir.Val.{to_z}
use mir.ValLaws.{to_z_pos}
use Rattle.octets.specs.Octets.{be_at, all_ones}
use Rattle.layout.specs.Fields.{none, missing, is, which, Meaning, unsigned, signed, or_missing, means, Field, held, said, shown, placed, values_of}
use Rattle.layout.proofs.Outcomes.{either}
use Rattle.layout.proofs.Ranges.{both_hold}
use Rattle.values.specs.Records.{in_row, numbers_in}
use Rattle.values.specs.Letters.{Kind, kind_of, row_number, numbers_by}

pub octets-small : (letter : ℕ) → (kind_of letter).octets ≤ 4
unfolding kind_of
octets-small letter =
    let P : Kind → Type 0 = λ k. k.octets ≤ 4 in
    either P (eqb letter 49) (omega arith)
    (either P (eqb letter 50) (omega arith)
    (either P (eqb letter 52) (omega arith)
    (either P (eqb letter 98) (omega arith)
    (either P (eqb letter 100) (omega arith)
    (either P (eqb letter 65) (omega arith)
    (either P (eqb letter 68) (omega arith)
    (either P (eqb letter 81) (omega arith)
    (either P (eqb letter 82) (omega arith) (omega arith)))))))))

-- ---- spelling

abbrev same_meaning : Meaning → Meaning → Bool
same_meaning unsigned unsigned = true
same_meaning unsigned signed = false
same_meaning unsigned (or_missing n) = false
same_meaning signed unsigned = false
same_meaning signed signed = true
same_meaning signed (or_missing n) = false
same_meaning (or_missing m) unsigned = false
same_meaning (or_missing m) signed = false
same_meaning (or_missing m) (or_missing n) = same_meaning m n

same-meaning : (m n : Meaning) → same_meaning m n ≡ true → m ≡ n
same-meaning unsigned unsigned e = refl
same-meaning unsigned signed e = absurd (true≢false (sym e))
same-meaning unsigned (or_missing n) e = absurd (true≢false (sym e))
same-meaning signed unsigned e = absurd (true≢false (sym e))
same-meaning signed signed e = refl
same-meaning signed (or_missing n) e = absurd (true≢false (sym e))
same-meaning (or_missing m) unsigned e = absurd (true≢false (sym e))
same-meaning (or_missing m) signed e = absurd (true≢false (sym e))
same-meaning (or_missing m) (or_missing n) e = ap or_missing (same-meaning m n e)

-- a letter for each field that has octets and a value, and nothing behind what is only shown
unfoldable pub spelt : List Field → List ℕ → Bool
spelt [] [] = true
spelt [] (l ∷ ls) = false
spelt (held w a m ∷ fs) [] = false
spelt (held w a m ∷ fs) (l ∷ ls) = eqb w (kind_of l).octets && (same_meaning m (kind_of l).meaning && spelt fs ls)
spelt (said none ∷ fs) ls = spelt fs ls
spelt (said missing ∷ fs) ls = false
spelt (said (is z) ∷ fs) ls = false
spelt (said (which n) ∷ fs) ls = spelt fs ls
spelt (shown w ∷ fs) [] = spelt fs []
spelt (shown w ∷ fs) (l ∷ ls) = false

-- what octets mean always has one number
one_number : (m : Meaning) (w x : ℕ) → in_row (means m w x) ≡ row_number (means m w x) ∷ []
one_number unsigned w x = refl
one_number signed w x = refl
one_number (or_missing m) w x = by (eqb x (all_ones w)) (one_number m w x)
  where
    by : (t : Bool) → in_row (means m w x) ≡ row_number (means m w x) ∷ [] → in_row (cond t missing (means m w x)) ≡ row_number (cond t missing (means m w x)) ∷ []
    by true e = refl
    by false e = e

pub spelt-numbers : (fs : List Field) (ls : List ℕ) (end k : ℕ) (s : List ℕ) → spelt fs ls ≡ true → numbers_in (values_of (placed end k fs) s) ≡ numbers_by ls (end + k) s
unfolding spelt numbers_in values_of placed numbers_by
spelt-numbers [] [] end k s e = refl
spelt-numbers [] (l ∷ ls) end k s e = absurd (true≢false (sym e))
spelt-numbers (held w a m ∷ fs) [] end k s e = absurd (true≢false (sym e))
spelt-numbers (held w a m ∷ fs) (l ∷ ls) end k s e =
    let width = both_hold _ _ e in
    let rest = both_hold _ _ width.1 in
    let w≡ = eqb-true w (kind_of l).octets width.0 in
    let m≡ = same-meaning m (kind_of l).meaning rest.0 in
    let number = row_number (means m w (be_at s (end + k) w)) in
    ap (λ (ns : List ℤ). ns ++ numbers_in (values_of (placed end (k + w) fs) s)) (one_number m w (be_at s (end + k) w))
    ∙ ap (λ (ns : List ℤ). number ∷ ns) (spelt-numbers fs ls end (k + w) s rest.1 ∙ ap (λ (at : ℕ). numbers_by ls at s) (sym (add_assoc end k w)))
    ∙ (λ i. row_number (means (m≡ i) (w≡ i) (be_at s (end + k) (w≡ i))) ∷ numbers_by ls (end + k + w≡ i) s)
spelt-numbers (said none ∷ fs) ls end k s e = spelt-numbers fs ls end (k + 0) s e ∙ ap (λ (j : ℕ). numbers_by ls (end + j) s) (add-zero k)
spelt-numbers (said missing ∷ fs) ls end k s e = absurd (true≢false (sym e))
spelt-numbers (said (is z) ∷ fs) ls end k s e = absurd (true≢false (sym e))
spelt-numbers (said (which n) ∷ fs) ls end k s e = spelt-numbers fs ls end (k + 0) s e ∙ ap (λ (j : ℕ). numbers_by ls (end + j) s) (add-zero k)
spelt-numbers (shown w ∷ fs) [] end k s e = spelt-numbers fs [] end (k + w) s e
spelt-numbers (shown w ∷ fs) (l ∷ ls) end k s e = absurd (true≢false (sym e))

-- ---- the row

-- an unsigned number, read as a signed one of 64 bits
pub widened : (n : ℕ) {m : ℕ} → n < 2 ^ 32 → n ≡ m → to_z w64 n ≡ pos m
widened n h e = to_z_pos w64 n (omega (arith, h)) ∙ ap pos e

pub as_many : (ls : List ℕ) (at : ℕ) (s : List ℕ) → length (numbers_by ls at s) ≡ length ls
unfolding numbers_by
as_many [] at s = refl
as_many (l ∷ ls) at s = ap suc (as_many ls (at + (kind_of l).octets) s)
