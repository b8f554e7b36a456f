-- A number that is read stands within the octets, takes one to five of them, and is at most 4,294,967,296; and it is the same whatever stands
-- behind it.
-- Assumes nothing.
use Prim.Native.Nat.{ℕ, zero, suc, ◌-◌, ◌≤◌}
use native.Mathlib.Omega.{arith}
use mathlib.Core.Path.{◌≡◌, refl, ap, sym, ◌∙◌}
use mathlib.Core.Bool.{Bool, true, false, cond}
use mathlib.Core.List.{List, [], ◌∷◌, ◌++◌}
use lib.Dec.{ltb}
use lib.ListN.{length, drop}
use lib.Seq.{drop-append-le}
use borrow.Author.Tests.{ltb-false}
use Rattle.std.specs.Prelude.{Option, Some, None}
use Rattle.cutting.specs.Numbers.{found, before, groups, bounded, leading_number, with_number}
use Rattle.cutting.specs.declared.Number.{Number}
use Rattle.cutting.proofs.Numbers.{found-same}
use Rattle.cutting.proofs.OneSpelling.{behind, of-groups}

pub groups-taken : (most : ℕ) (s : List ℕ) (n count : ℕ) → groups most s ≡ found n count → (count ≤ length s) × (count ≤ most) × (1 ≤ count)
unfolding groups
groups-taken zero s n count e = let z : ◌≡◌ {A = ℕ} 0 1 = cc in absurd (omega arith)
groups-taken (suc most) [] n count e = let z : ◌≡◌ {A = ℕ} 0 1 = cc in absurd (omega arith)
groups-taken (suc most) (x ∷ xs) n count e = by-top (groups-taken most xs) (ltb x 128) e
  where
    by-top : ((m k : ℕ) → groups most xs ≡ found m k → (k ≤ length xs) × (k ≤ most) × (1 ≤ k)) → (t : Bool) → cond t (found x 1) (before (x - 128) (groups most xs)) ≡ found n count → (count ≤ suc (length xs)) × (count ≤ suc most) × (1 ≤ count)
    by-top others true e = let one = (found-same e).1 in (omega arith, omega arith, omega arith)
    by-top others false e =
        let b = behind (x - 128) n count (groups most xs) e in
        let h = others b.rest b.octets b.follows in
        let longer = b.longer in (omega (arith, h.0, longer), omega (arith, h.1, longer), omega (arith, longer))

pub record Taken (s : List ℕ) (x : Number) : Type 0 where
  pub inside : x.octets ≤ length s
  pub few : x.octets ≤ 5
  pub some : 1 ≤ x.octets
  pub small : x.value ≤ 4294967296

pub taken : (s : List ℕ) (x : Number) → leading_number s ≡ Some x → Taken s x
unfolding leading_number
taken s x e =
    let read = of-groups (groups 5 s) x.value x.octets e in
    let h = groups-taken 5 s x.value x.octets read in
    record { inside = h.0; few = h.1; some = h.2; small = by-bound (ltb 4294967296 x.value) refl (sym (ap bounded read) ∙ e) }
  where
    by-bound : (t : Bool) → ltb 4294967296 x.value ≡ t → cond (ltb 4294967296 x.value) None (Some x) ≡ Some x → x.value ≤ 4294967296
    by-bound false t e = ltb-false 4294967296 x.value t
    by-bound true t e =
        let gone : None ≡ Some x = rw t at e in
        let z : ◌≡◌ {A = ℕ} 0 1 = cc in absurd (omega arith)

-- where something else is said than where none stands, a number stands
pub number-stands : {A : Type 0} (r : Option Number) {other : A} (next : ℕ → ℕ → A) (x : A) → (other ≡ x → ⊥) → with_number r other next ≡ x → (n : ℕ) × (count : ℕ) × (r ≡ found n count) × (next n count ≡ x)
number-stands None next x differs e = absurd (differs e)
number-stands (Some y) next x differs e = (y.value, y.octets, refl, e)

-- ---- whatever stands behind it

groups-ahead : (most : ℕ) (p q : List ℕ) (n count : ℕ) → groups most p ≡ found n count → groups most (p ++ q) ≡ found n count
unfolding groups
groups-ahead zero p q n count e = let z : ◌≡◌ {A = ℕ} 0 1 = cc in absurd (omega arith)
groups-ahead (suc most) [] q n count e = let z : ◌≡◌ {A = ℕ} 0 1 = cc in absurd (omega arith)
groups-ahead (suc most) (x ∷ xs) q n count e = by-top (groups-ahead most xs q) (ltb x 128) e
  where
    by-top : ((m k : ℕ) → groups most xs ≡ found m k → groups most (xs ++ q) ≡ found m k) → (t : Bool) → cond t (found x 1) (before (x - 128) (groups most xs)) ≡ found n count → cond t (found x 1) (before (x - 128) (groups most (xs ++ q))) ≡ found n count
    by-top others true e = e
    by-top others false e =
        let b = behind (x - 128) n count (groups most xs) e in
        ap (before (x - 128)) (others b.rest b.octets b.follows ∙ sym b.follows) ∙ e

pub number-ahead : (p q : List ℕ) (n count : ℕ) → leading_number p ≡ found n count → leading_number (p ++ q) ≡ found n count
unfolding leading_number
number-ahead p q n count e =
    let read = of-groups (groups 5 p) n count e in
    ap bounded (groups-ahead 5 p q n count read ∙ sym read) ∙ e

-- from an index within the first list on
pub number-after : (a : ℕ) (p q : List ℕ) (n count : ℕ) → a ≤ length p → leading_number (drop a p) ≡ found n count → leading_number (drop a (p ++ q)) ≡ found n count
number-after a p q n count l e = ap leading_number (drop-append-le a p q l) ∙ number-ahead (drop a p) q n count e
