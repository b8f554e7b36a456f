-- Sections that stand in order are those of groups.
-- Assumes nothing.
use Prim.Native.Nat.{ℕ, zero, suc, ◌+◌, ◌≤◌, ◌<◌}
use native.Mathlib.Omega.{arith}
use mathlib.Core.Path.{◌≡◌, refl, ap, sym, subst, ◌∙◌}
use mathlib.Core.Bool.{Bool, true, false, not, ◌&&◌}
use mathlib.Core.Logic.{◌⊎◌, inl, inr}
use mathlib.Core.List.{List, [], ◌∷◌, ◌++◌, append_assoc}
use lib.Dec.{eqb}
use lib.ListN.{length, length-append}
use borrow.Author.Tests.{eqb-true, eqb-false, eq-eqb, ne_eqb, not-false}
use Rattle.octets.specs.Octets.{be_at}
use Rattle.cutting.specs.Sections.{Sized}
use Rattle.layout.proofs.Ranges.{both_hold, between_in}
use Rattle.message.specs.Walk.{number_in, may_follow, other_six}
use Rattle.message.specs.Grammar.{Is, Opening, at_two, at_three, at_four, Opens, Complete, Group, opened, sections_of, all_sections, IsGroup, AreGroups}
use Rattle.message.proofs.Sizes.{AllSized}
use Rattle.message.specs.FirstPlace.{fields_after}
use Rattle.message.proofs.Steps.{Steps}

-- ---- which section comes next

next-number : (last n : ℕ) → (last ≡ 7 → ⊥) → (last ≡ 1 → ⊥) → may_follow last n ≡ true → n ≡ last + 1
unfolding may_follow
next-number last n seven one e = eqb-true n (last + 1) (rw (ne_eqb last 7 seven, ne_eqb last 1 one) at e)

after-seven : (n : ℕ) → may_follow 7 n ≡ true → (2 ≤ n) × (n ≤ 4)
unfolding may_follow
after-seven n e = between_in 2 4 n e

after_one : (n : ℕ) → may_follow 1 n ≡ true → (2 ≤ n) × (n ≤ 3)
unfolding may_follow
after_one n e = between_in 2 3 n e

six-is : (x : List ℕ) → be_at x 5 1 ≡ 6 → other_six x ≡ false → (length x ≡ 6) × (be_at x 6 1 ≡ 255)
unfolding other_six
six-is x n e =
    let t : not (eqb (length x) 6 && eqb (be_at x 6 1) 255) ≡ false = rw (eq-eqb _ _ n) at e in
    let p = both_hold (eqb (length x) 6) (eqb (be_at x 6 1) 255) (not-false _ t) in
    (eqb-true _ _ p.0, eqb-true _ _ p.1)

-- ---- one section, where a certain one must come

pub record Next (n count : ℕ) (xs : List (List ℕ)) : Type 0 where
  pub x : List ℕ
  pub rest : List (List ℕ)
  pub same : xs ≡ x ∷ rest
  pub is : Is n x
  pub six : other_six x ≡ false
  pub room : count < 16
  pub steps : Steps n (fields_after n count) rest
  pub sized : AllSized rest

is-section : (n : ℕ) (x : List ℕ) → Sized x → number_in x ≡ n → Is n x
is-section n x s e = record { sized = s; numbered = e }

pub next : (last count : ℕ) (xs : List (List ℕ)) → (last ≡ 7 → ⊥) → (last ≡ 1 → ⊥) → Steps last count xs → AllSized xs → Next (last + 1) count xs
unfolding Steps AllSized
next last count [] seven one s z = absurd (seven s)
next last count (x ∷ xs) seven one s z =
    let e = next-number last (number_in x) seven one s.0.follows in
    record {
      x = x;
      rest = xs;
      same = refl;
      is = is-section (last + 1) x z.0 e;
      six = s.0.six;
      room = s.0.room;
      steps = subst (λ (n : ℕ). Steps n (fields_after n count) xs) e s.1;
      sized = z.1;
    }

-- ---- a group

-- the rest of a group that opens so
pub record Made (o : Opening) (count : ℕ) (xs : List (List ℕ)) : Type 0 where
  pub four : List ℕ
  pub five : List ℕ
  pub six : List ℕ
  pub seven : List ℕ
  pub rest : List (List ℕ)
  pub same : xs ≡ four ∷ five ∷ six ∷ seven ∷ rest
  pub is : IsGroup (record { opening = o; four = four; five = five; six = six; seven = seven })
  pub room : count < 16
  pub steps : Steps 7 (count + 1) rest
  pub sized : AllSized rest

from-four : (o : Opening) → Opens o → (count : ℕ) (x : List ℕ) (xs : List (List ℕ)) → Is 4 x → Steps 4 count xs → AllSized xs → Made o count (x ∷ xs)
from-four o opens count x xs is s z =
    let a = next 4 count xs (λ e. omega arith) (λ e. omega arith) s z in
    let b = next 5 count a.rest (λ e. omega arith) (λ e. omega arith) a.steps a.sized in
    let c = next 6 count b.rest (λ e. omega arith) (λ e. omega arith) b.steps b.sized in
    let six = six-is b.x b.is.numbered b.six in
    record {
      four = x;
      five = a.x;
      six = b.x;
      seven = c.x;
      rest = c.rest;
      same = ap (λ (l : List (List ℕ)). x ∷ l) (a.same ∙ ap (λ (l : List (List ℕ)). a.x ∷ l) (b.same ∙ ap (λ (l : List (List ℕ)). b.x ∷ l) c.same));
      is = record { opens = opens; four = is; five = a.is; six = b.is; short = six.0; none = six.1; seven = c.is };
      room = c.room;
      steps = c.steps;
      sized = c.sized;
    }

from-three : (o : Opening) → Opens o → (count : ℕ) (xs : List (List ℕ)) → Steps 3 count xs → AllSized xs → Made o count xs
from-three o opens count xs s z =
    let a = next 3 count xs (λ e. omega arith) (λ e. omega arith) s z in
    subst (Made o count) (sym a.same) (from-four o opens count a.x a.rest a.is a.steps a.sized)

-- the first group of sections that follow section `last`, and those behind it
pub record Cutoff (last count : ℕ) (xs : List (List ℕ)) : Type 0 where
  pub group : Group
  pub rest : List (List ℕ)
  pub same : xs ≡ sections_of group ++ rest
  pub is : IsGroup group
  pub complete : last ≡ 1 → Complete group.opening
  pub room : count < 16
  pub steps : Steps 7 (count + 1) rest
  pub sized : AllSized rest

made : (o : Opening) (last count : ℕ) (xs ys : List (List ℕ)) → (last ≡ 1 → Complete o) → ys ≡ opened o ++ xs → Made o count xs → Cutoff last count ys
made o last count xs ys complete e m =
    record {
      group = record { opening = o; four = m.four; five = m.five; six = m.six; seven = m.seven };
      rest = m.rest;
      same = e ∙ ap (λ (l : List (List ℕ)). opened o ++ l) m.same ∙ sym (append_assoc (opened o) (m.four ∷ m.five ∷ m.six ∷ m.seven ∷ []) m.rest);
      is = m.is;
      complete = complete;
      room = m.room;
      steps = m.steps;
      sized = m.sized;
    }

only-four : (n : ℕ) → 2 ≤ n → n ≤ 4 → (n ≡ 2 → ⊥) → (n ≡ 3 → ⊥) → n ≡ 4
only-four zero l h two three = absurd (omega arith)
only-four (suc zero) l h two three = absurd (omega arith)
only-four (suc (suc zero)) l h two three = absurd (two refl)
only-four (suc (suc (suc zero))) l h two three = absurd (three refl)
only-four (suc (suc (suc (suc n)))) l h two three = omega arith

-- by the number of the first section
by_first : (last count : ℕ) (x : List ℕ) (xs : List (List ℕ)) → 2 ≤ number_in x → number_in x ≤ 4 → (last ≡ 1 → number_in x ≤ 3) → Steps (number_in x) count xs → Sized x → AllSized xs → Cutoff last count (x ∷ xs)
by_first last count x xs low high one s z zs = by_two (eqb (number_in x) 2) refl
  where
    by_three : (t : Bool) → eqb (number_in x) 3 ≡ t → (number_in x ≡ 2 → ⊥) → Cutoff last count (x ∷ xs)
    by_three true e two =
        let n = eqb-true (number_in x) 3 e in
        made (at_three x) last count xs (x ∷ xs) (λ l. tt) refl (from-three (at_three x) (is-section 3 x z n) count xs (subst (λ (k : ℕ). Steps k count xs) n s) zs)
    by_three false e two =
        let three = eqb-false (number_in x) 3 e in
        let n : number_in x ≡ 4 = only-four (number_in x) low high two three in
        made at_four last count (x ∷ xs) (x ∷ xs) (λ l. absurd (omega (arith, one l, n))) refl (from-four at_four tt count x xs (is-section 4 x z n) (subst (λ (k : ℕ). Steps k count xs) n s) zs)

    by_two : (t : Bool) → eqb (number_in x) 2 ≡ t → Cutoff last count (x ∷ xs)
    by_two true e =
        let n = eqb-true (number_in x) 2 e in
        let a = next 2 count xs (λ k. omega arith) (λ k. omega arith) (subst (λ (k : ℕ). Steps k count xs) n s) zs in
        made (at_two x a.x) last count a.rest (x ∷ xs) (λ l. tt) (ap (λ (l : List (List ℕ)). x ∷ l) a.same) (from-three (at_two x a.x) (is-section 2 x z n, a.is) count a.rest a.steps a.sized)
    by_two false e = by_three (eqb (number_in x) 3) refl (eqb-false (number_in x) 2 e)

-- no group begins with a 7, so no field ends there
not_yet : (n count : ℕ) → n ≤ 4 → fields_after n count ≡ count
not_yet n count h = rw (ne_eqb n 7 (λ e. omega arith)) refl

pub cutoff : (last count : ℕ) (x : List ℕ) (xs : List (List ℕ)) → (last ≡ 7) ⊎ (last ≡ 1) → Steps last count (x ∷ xs) → AllSized (x ∷ xs) → Cutoff last count (x ∷ xs)
unfolding Steps AllSized
cutoff last count x xs before s z =
    let b = bounds before in
    by_first last count x xs b.0 b.1.0 b.1.1 (subst (λ (k : ℕ). Steps (number_in x) k xs) (not_yet (number_in x) count b.1.0) s.1) z.0 z.1
  where
    bounds : (last ≡ 7) ⊎ (last ≡ 1) → (2 ≤ number_in x) × ((number_in x ≤ 4) × (last ≡ 1 → number_in x ≤ 3))
    bounds (inl e) = let p = after-seven (number_in x) (subst (λ (k : ℕ). may_follow k (number_in x) ≡ true) e s.0.follows) in (p.0, (p.1, λ one. absurd (omega (arith, e, one))))
    bounds (inr e) = let p = after_one (number_in x) (subst (λ (k : ℕ). may_follow k (number_in x) ≡ true) e s.0.follows) in (p.0, (omega (arith, p.1), λ one. p.1))

-- ---- groups

pub record Grouped (count : ℕ) (xs : List (List ℕ)) : Type 0 where
  pub groups : List Group
  pub same : xs ≡ all_sections groups
  pub are : AreGroups groups
  pub most : count + length groups ≤ 16

-- a first group, and those behind it
unfoldable pub together : (last count : ℕ) (xs : List (List ℕ)) (c : Cutoff last count xs) → Grouped (count + 1) c.rest → Grouped count xs
unfolding all_sections AreGroups
together last count xs c g =
    record {
      groups = c.group ∷ g.groups;
      same = c.same ∙ ap (λ (l : List (List ℕ)). sections_of c.group ++ l) g.same;
      are = (c.is, g.are);
      most = omega (arith, g.most);
    }

shorter : (g : Group) (xs rest : List (List ℕ)) → xs ≡ sections_of g ++ rest → suc (length rest) ≤ length xs
shorter g xs rest e =
    omega (arith, ap length e, length-append (sections_of g) rest, length-append (opened g.opening) (g.four ∷ g.five ∷ g.six ∷ g.seven ∷ []))

-- that this holds for at most so many sections
abbrev UpTo : ℕ → Type 0
UpTo n = (count : ℕ) (xs : List (List ℕ)) → length xs ≤ n → count ≤ 16 → Steps 7 count xs → AllSized xs → Grouped count xs

no-group : (count : ℕ) → count ≤ 16 → Grouped count []
unfolding all_sections AreGroups
no-group count m = record { groups = []; same = refl; are = tt; most = omega arith }

one-group-more : (n : ℕ) → UpTo n → UpTo (suc n)
one-group-more n others count [] h m s z = no-group count m
one-group-more n others count (x ∷ xs) h m s z =
    let c = cutoff 7 count x xs (inl refl) s z in
    together 7 count (x ∷ xs) c (others (count + 1) c.rest (omega (arith, shorter c.group (x ∷ xs) c.rest c.same)) (omega (arith, c.room)) c.steps c.sized)

pub grouped : (n : ℕ) → UpTo n
grouped zero count [] h m s z = no-group count m
grouped zero count (x ∷ xs) h m s z = absurd (omega arith)
grouped (suc n) count xs h m s z = one-group-more n (grouped n) count xs h m s z
