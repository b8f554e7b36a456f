-- A number read group by group from its start: what was read so far stands before what follows.
-- Assumes nothing.
use Prim.Native.Nat.{ℕ, zero, suc, ◌+◌, ◌*◌, ◌-◌, ◌^◌, ◌<◌, ◌≤◌, min}
use native.Mathlib.Omega.{arith}
use native.Mathlib.Nat.{mul-add, mul_assoc, add_assoc}
use mathlib.Core.Path.{◌≡◌, refl, ap, ap₂, sym, ◌∙◌}
use mathlib.Core.Bool.{Bool, true, false, cond}
use mathlib.Core.List.{List, [], ◌∷◌}
use lib.Dec.{ltb, eqb}
use lib.ListN.{length, take, drop, get_or, drop_of_length-le}
use lib.Seq.{drop-cons}
use borrow.Author.Tests.{ne_eqb, eqb-false, lt-ltb, le-ltb}
use Rattle.std.specs.Prelude.{Option, Some, None}
use Rattle.cutting.specs.Numbers.{found, before, groups}
use Rattle.cutting.specs.declared.Number.{Number}

-- what is found is that number, in that many octets
pub found-same : {x y : Number} → Some x ≡ Some y → (x.value ≡ y.value) × (x.octets ≡ y.octets)
found-same {x} {y} e = let same : x ≡ y = cc in (ap (λ (n : Number). n.value) same, ap (λ (n : Number). n.octets) same)

-- no more octets are looked at than there may be groups
pub groups-within : (most n : ℕ) (s : List ℕ) → min (length s) most ≤ n → groups most (take n s) ≡ groups most s
unfolding groups
groups-within zero n s h = refl
groups-within (suc most) zero [] h = refl
groups-within (suc most) (suc n) [] h = refl
groups-within (suc most) zero (x ∷ xs) h = absurd (omega arith)
groups-within (suc most) (suc n) (x ∷ xs) h = ap (λ (r : Option Number). cond (ltb x 128) (found x 1) (before (x - 128) r)) (groups-within most n xs (omega arith))

-- `i` groups of this value, and what follows them
abbrev pub shifted : ℕ → ℕ → ℕ → Option Number → Option Number
shifted value scale i None = None
shifted value scale i (Some x) = cond (eqb x.value 0) None (found (value + scale * x.value) (i + x.octets))

-- where no group was read yet, what follows may be 0
abbrev pub ahead : ℕ → ℕ → ℕ → Option Number → Option Number
ahead value scale zero r = r
ahead value scale (suc i) r = shifted value scale (suc i) r

-- one group more
shift-before : (value scale i low : ℕ) (r : Option Number) → shifted value scale i (before low r) ≡ shifted (value + scale * low) (scale * 128) (suc i) r
shift-before value scale i low None = refl
shift-before value scale i low (Some x) = by_zero (eqb x.value 0) refl
  where
    by_zero : (t : Bool) → eqb x.value 0 ≡ t → shifted value scale i (before low (Some x)) ≡ shifted (value + scale * low) (scale * 128) (suc i) (Some x)
    by_zero true e = rw e
    by_zero false e =
        let some : eqb (low + 128 * x.value) 0 ≡ false = ne_eqb (low + 128 * x.value) 0 (λ z. eqb-false x.value 0 e (omega arith)) in
        let same : value + scale * (low + 128 * x.value) ≡ value + scale * low + scale * 128 * x.value =
        ap (λ (k : ℕ). value + k) (mul-add scale low (128 * x.value) ∙ ap (λ (k : ℕ). scale * low + k) (sym (mul_assoc scale 128 x.value))) ∙ sym (add_assoc value (scale * low) (scale * 128 * x.value)) in
        let count_same : i + suc x.octets ≡ suc i + x.octets = omega arith in
        rw e (rw some (ap₂ found same count_same))

-- the first group stands before what follows as any does
pub first-shifted : (low : ℕ) (r : Option Number) → before low r ≡ shifted low 128 1 r
first-shifted low None = refl
first-shifted low (Some x) = ap (λ (k : ℕ). cond (eqb x.value 0) None (found (low + 128 * x.value) k)) (omega arith)

-- of no groups the value is 0
module _ (value scale : ℕ) (power : scale ≡ 2 ^ (7 * 0)) (below : value < scale) where
  scale-one : scale ≡ 1
  scale-one = power

  value-of : (n : ℕ) → value + scale * n ≡ n
  value-of n = let nothing : value ≡ 0 = omega (arith, scale-one, below) in rw (scale-one, nothing) (omega arith)

pub ahead-before : (value scale i low : ℕ) (r : Option Number) → scale ≡ 2 ^ (7 * i) → value < scale → ahead value scale i (before low r) ≡ ahead (value + scale * low) (scale * 128) (suc i) r
ahead-before value scale zero low r power below =
    let scale_is : scale * 128 ≡ 128 = omega (arith, scale-one value scale power below) in
    first-shifted low r ∙ sym (ap₂ (λ (v k : ℕ). shifted v k 1 r) (value-of value scale power below low) scale_is)
ahead-before value scale (suc i) low r power below = shift-before value scale (suc i) low r

-- the last group; a 0 behind others would be a longer form
pub ahead-last : (value scale i n : ℕ) → scale ≡ 2 ^ (7 * i) → value < scale → (n ≡ 0 → i ≡ 0) → ahead value scale i (found n 1) ≡ found (value + scale * n) (i + 1)
ahead-last value scale zero n power below some = ap (λ (v : ℕ). found v 1) (sym (value-of value scale power below n))
ahead-last value scale (suc i) n power below some =
    ap (λ (t : Bool). cond t None (found (value + scale * n) (suc i + 1))) (ne_eqb n 0 (λ e. let z = some e in omega arith))

pub ahead-none : (value scale i : ℕ) → ahead value scale i None ≡ None
ahead-none value scale zero = refl
ahead-none value scale (suc i) = refl

pub ahead-longer : (value scale i n : ℕ) → n ≡ 0 → (i ≡ 0 → ⊥) → ahead value scale i (found n 1) ≡ None
ahead-longer value scale zero n e some = absurd (some refl)
ahead-longer value scale (suc i) n e some = ap (λ (k : ℕ). shifted value scale (suc i) (found k 1)) e

-- the group at index i of the octets, and then those after it
group_at : (s : List ℕ) (i most : ℕ) → i < length s → groups (suc most) (drop i s) ≡ cond (ltb (get_or s i 0) 128) (found (get_or s i 0) 1) (before (get_or s i 0 - 128) (groups most (drop (suc i) s)))
unfolding groups
group_at s i most h = ap (groups (suc most)) (drop-cons s i 0 h)

pub group-last : (s : List ℕ) (i most : ℕ) → i < length s → get_or s i 0 < 128 → groups (suc most) (drop i s) ≡ found (get_or s i 0) 1
group-last s i most h l =
    group_at s i most h
    ∙ ap (λ (t : Bool). cond t (found (get_or s i 0) 1) (before (get_or s i 0 - 128) (groups most (drop (suc i) s)))) (lt-ltb _ _ l)

pub group-more : (s : List ℕ) (i most : ℕ) → i < length s → 128 ≤ get_or s i 0 → groups (suc most) (drop i s) ≡ before (get_or s i 0 - 128) (groups most (drop (suc i) s))
group-more s i most h l =
    group_at s i most h
    ∙ ap (λ (t : Bool). cond t (found (get_or s i 0) 1) (before (get_or s i 0 - 128) (groups most (drop (suc i) s)))) (le-ltb _ _ l)

pub group-end : (s : List ℕ) (i most : ℕ) → length s ≤ i → groups most (drop i s) ≡ None
unfolding groups
group-end s i zero h = refl
group-end s i (suc most) h = ap (groups (suc most)) (drop_of_length-le s {i = i} h)
