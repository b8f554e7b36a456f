-- One message has one list of groups: any two ways to see it as section 0, section 1, groups and 7777 are one way.
-- Assumes nothing.
use Prim.Native.Nat.{ℕ}
use native.Mathlib.Omega.{arith}
use mathlib.Core.Path.{◌≡◌, refl, ap, sym, ◌∙◌}
use mathlib.Core.List.{List, [], ◌∷◌, ◌++◌}
use lib.ListN.{length, length-append}
use Rattle.octets.specs.Octets.{be_at}
use Rattle.cutting.specs.Cuts.{Cut as Pieces}
use Rattle.message.specs.Grammar.{Is, Opening, at_two, at_three, at_four, Opens, Group, opened, sections_of, all_sections, IsGroup, AreGroups, Parts, IsFrame}
use Rattle.message.proofs.Frames.{zero_is, end_is, sections-are}

-- ---- lists that begin with the same section

first : (x y : List ℕ) (xs ys : List (List ℕ)) → (x ∷ xs) ≡ (y ∷ ys) → x ≡ y
first x y xs ys e = cc

later : (x y : List ℕ) (xs ys : List (List ℕ)) → (x ∷ xs) ≡ (y ∷ ys) → xs ≡ ys
later x y xs ys e = cc

-- a section has one number
numbers : (m n : ℕ) (x y : List ℕ) (xs ys : List (List ℕ)) → Is m x → Is n y → (x ∷ xs) ≡ (y ∷ ys) → m ≡ n
numbers m n x y xs ys a b e = sym a.numbered ∙ ap (λ (l : List ℕ). be_at l 5 1) (first x y xs ys e) ∙ b.numbered

-- ---- one group

record Same (o q : Opening) (g h : Group) (xs ys : List (List ℕ)) : Type 0 where
  opening : o ≡ q
  four : g.four ≡ h.four
  five : g.five ≡ h.five
  six : g.six ≡ h.six
  seven : g.seven ≡ h.seven
  rest : xs ≡ ys

abbrev fours : Group → List (List ℕ) → List (List ℕ)
fours g xs = g.four ∷ g.five ∷ g.six ∷ g.seven ∷ xs

same-fours : (o q : Opening) (g h : Group) (xs ys : List (List ℕ)) → o ≡ q → fours g xs ≡ fours h ys → Same o q g h xs ys
same-fours o q g h xs ys p e = record { opening = p; four = cc; five = cc; six = cc; seven = cc; rest = cc }

same-group : (o q : Opening) (g h : Group) (xs ys : List (List ℕ)) → Opens o → Opens q → IsGroup g → IsGroup h
    → ((opened o ++ fours g []) ++ xs) ≡ ((opened q ++ fours h []) ++ ys) → Same o q g h xs ys
same-group at_four at_four g h xs ys a b is js e = same-fours at_four at_four g h xs ys refl e
same-group at_four (at_three y) g h xs ys a b is js e = absurd (omega (arith, numbers 4 3 g.four y _ _ is.four b e))
same-group at_four (at_two z y) g h xs ys a b is js e = absurd (omega (arith, numbers 4 2 g.four z _ _ is.four b.0 e))
same-group (at_three x) at_four g h xs ys a b is js e = absurd (omega (arith, numbers 3 4 x h.four _ _ a js.four e))
same-group (at_three x) (at_three y) g h xs ys a b is js e =
    same-fours (at_three x) (at_three y) g h xs ys (ap (λ (l : List ℕ). at_three l) (first x y _ _ e)) (later x y _ _ e)
same-group (at_three x) (at_two z y) g h xs ys a b is js e = absurd (omega (arith, numbers 3 2 x z _ _ a b.0 e))
same-group (at_two w x) at_four g h xs ys a b is js e = absurd (omega (arith, numbers 2 4 w h.four _ _ a.0 js.four e))
same-group (at_two w x) (at_three y) g h xs ys a b is js e = absurd (omega (arith, numbers 2 3 w y _ _ a.0 b e))
same-group (at_two w x) (at_two z y) g h xs ys a b is js e =
    let f = later w z _ _ e in
    same-fours (at_two w x) (at_two z y) g h xs ys (λ i. at_two (first w z _ _ e i) (first x y _ _ f i)) (later x y _ _ f)

-- ---- groups

none : (g : Group) (xs : List (List ℕ)) → [] ≡ sections_of g ++ xs → ⊥
none g xs e =
    omega (arith, ap length e, length-append (sections_of g) xs, length-append (opened g.opening) (g.four ∷ g.five ∷ g.six ∷ g.seven ∷ []))

same-groups : (gs hs : List Group) → AreGroups gs → AreGroups hs → all_sections gs ≡ all_sections hs → gs ≡ hs
unfolding all_sections AreGroups
same-groups [] [] a b e = refl
same-groups [] (h ∷ hs) a b e = absurd (none h (all_sections hs) e)
same-groups (g ∷ gs) [] a b e = absurd (none g (all_sections gs) (sym e))
same-groups (g ∷ gs) (h ∷ hs) a b e =
    let s = same-group g.opening h.opening g h (all_sections gs) (all_sections hs) a.0.opens b.0.opens a.0 b.0 e in
    let rest = same-groups gs hs a.1 b.1 s.rest in
    λ i. record { opening = s.opening i; four = s.four i; five = s.five i; six = s.six i; seven = s.seven i } ∷ rest i

-- ---- the whole message

pub unambiguous : (m : List ℕ) (p q : Parts) → IsFrame m p → IsFrame m q → p ≡ q
unambiguous m p q f g =
    let both = ap (λ (c : Pieces (List ℕ)). c.items) (sym (sections-are m p f) ∙ sections-are m q g) in
    let zero_same = sym (zero_is m p f) ∙ zero_is m q g in
    let one_same = first p.one q.one _ _ both in
    let groups-same = same-groups p.groups q.groups f.groups g.groups (later p.one q.one _ _ both) in
    let End-same = sym (end_is m p f) ∙ end_is m q g in
    λ i. record { zero = zero_same i; one = one_same i; groups = groups-same i; end = End-same i }
