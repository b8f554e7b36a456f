-- A walk over the sections of groups: each group is one field more, with the sections that it leaves in force.
-- Assumes nothing.
use Prim.Native.Nat.{ℕ, suc, ◌+◌, ◌-◌, ◌≤◌, ◌<◌}
use native.Mathlib.Omega.{arith}
use mathlib.Core.Path.{◌≡◌, refl, ap, sym, ◌∙◌}
use mathlib.Core.Bool.{Bool, true, false, ◌&&◌}
use mathlib.Core.List.{List, [], ◌∷◌, ◌++◌, append_assoc, append-nil}
use lib.Dec.{eqb}
use lib.ListN.{length, set, length-append}
use lib.Seq.{set-append_seam}
use borrow.Author.Tests.{eq-eqb}
use Rattle.octets.specs.Octets.{be_at}
use Rattle.layout.specs.Fields.{between}
use Rattle.layout.specs.Outcomes.{no_refusal, first_refusal}
use Rattle.layout.specs.declared.Span.{Span}
use Rattle.message.specs.declared.Sections.{Sections}
use Rattle.message.specs.Walk.{Cut}
use Rattle.message.specs.Walk.{Walk, may_follow, other_six, end_refusal, in_force, one_more, with_section, no_sections, judged_in, span_at}
use Rattle.message.specs.Grammar.{Is, Opening, at_two, at_three, at_four, Opens, Complete, Group, opened, sections_of, all_sections, IsGroup, AreGroups}
use Rattle.message.specs.Places.{four_after, three_at, place_of, next_after, places_of, padded, fields_found}
use Rattle.message.specs.FirstPlace.{Clear}
use Rattle.message.proofs.Clear.{unrefused}
use Rattle.message.proofs.Walks.{judged-on}

-- what is judged of a message that is all sections and ends in 7777
abbrev pub judged_well : ℕ → Walk → List (List ℕ) → Cut
judged_well at w xs = judged_in true true at w xs

-- ---- one section

-- a section that is no 6
pub not-six : (n : ℕ) (x : List ℕ) → be_at x 5 1 ≡ n → eqb n 6 ≡ false → other_six x ≡ false
unfolding other_six
not-six n x e d = rw (e, d)

and-false : (t : Bool) → (t && false) ≡ false
and-false true = refl
and-false false = refl

good-six : (x : List ℕ) → length x ≡ 6 → be_at x 6 1 ≡ 255 → other_six x ≡ false
unfolding other_six
good-six x l e = rw (eq-eqb _ _ l, eq-eqb _ _ e) (and-false (eqb (be_at x 5 1) 6))

-- a section that may stand there is taken by its number
pub one-section : (at : ℕ) (w : Walk) (n : ℕ) (x : List ℕ) (xs : List (List ℕ)) → Is n x → w.found.count < 16 → may_follow w.last n ≡ true → other_six x ≡ false
    → judged_well at w (x ∷ xs) ≡ judged_well (at + length x) (with_section w n (span_at at x)) xs
one-section at w n x xs is room order six =
    let c : Clear w.last w.found.count x = record { follows = ap (may_follow w.last) is.numbered ∙ order; six = six; room = room } in
    judged-on true true at w x xs (unrefused w.last w.found.count x c)
    ∙ ap (λ (k : ℕ). judged_well (at + length x) (with_section w k (span_at at x)) xs) is.numbered

-- ---- sections 4 to 7

-- the walk after them, with these sections in force
abbrev closed : Walk → Sections → Walk
closed w f = record { last = 7; force = f; found = one_more w.found f }

abbrev from_four : ℕ → Sections → Group → Sections
from_four at f g =
    record {
      one = f.one;
      three = f.three;
      four = span_at at g.four;
      five = span_at (at + length g.four) g.five;
      seven = span_at (at + length g.four + length g.five + length g.six) g.seven;
    }

four-to-seven : (at : ℕ) (w : Walk) (g : Group) (xs : List (List ℕ)) → IsGroup g → w.found.count < 16 → may_follow w.last 4 ≡ true
    → judged_well at w (g.four ∷ g.five ∷ g.six ∷ g.seven ∷ xs)
    ≡ judged_well (at + length g.four + length g.five + length g.six + length g.seven) (closed w (from_four at w.force g)) xs
unfolding with_section in_force may_follow
four-to-seven at w g xs is room order =
    let a4 = at + length g.four in
    let a5 = a4 + length g.five in
    let a6 = a5 + length g.six in
    let w4 = with_section w 4 (span_at at g.four) in
    let w5 = with_section w4 5 (span_at a4 g.five) in
    let w6 = with_section w5 6 (span_at a5 g.six) in
    one-section at w 4 g.four (g.five ∷ g.six ∷ g.seven ∷ xs) is.four room order (not-six 4 g.four is.four.numbered refl)
    ∙ one-section a4 w4 5 g.five (g.six ∷ g.seven ∷ xs) is.five room refl (not-six 5 g.five is.five.numbered refl)
    ∙ one-section a5 w5 6 g.six (g.seven ∷ xs) is.six room refl (good-six g.six is.short is.none)
    ∙ one-section a6 w6 7 g.seven xs is.seven room refl (not-six 7 g.seven is.seven.numbered refl)

-- ---- a group

-- the number of its first section
abbrev pub first_in : Opening → ℕ
first_in (at_two two three) = 2
first_in (at_three three) = 3
first_in at_four = 4

abbrev with_three : Sections → Span → Sections
with_three f x = record { one = f.one; three = x; four = f.four; five = f.five; seven = f.seven }

by-opening : (o : Opening) (at : ℕ) (w : Walk) (g : Group) (xs : List (List ℕ)) → Opens o → IsGroup g → w.found.count < 16 → may_follow w.last (first_in o) ≡ true
    → judged_well at w ((opened o ++ (g.four ∷ g.five ∷ g.six ∷ g.seven ∷ [])) ++ xs)
    ≡ judged_well (four_after at o + length g.four + length g.five + length g.six + length g.seven) (closed w (from_four (four_after at o) (with_three w.force (three_at at w.force.three o)) g)) xs
unfolding with_section in_force may_follow
by-opening at_four at w g xs opens is room order = four-to-seven at w g xs is room order
by-opening (at_three x) at w g xs opens is room order =
    one-section at w 3 x (g.four ∷ g.five ∷ g.six ∷ g.seven ∷ xs) opens room order (not-six 3 x opens.numbered refl)
    ∙ four-to-seven (at + length x) (with_section w 3 (span_at at x)) g xs is room refl
by-opening (at_two y x) at w g xs opens is room order =
    let a2 = at + length y in
    let w2 = with_section w 2 (span_at at y) in
    one-section at w 2 y (x ∷ g.four ∷ g.five ∷ g.six ∷ g.seven ∷ xs) opens.0 room order (not-six 2 y opens.0.numbered refl)
    ∙ one-section a2 w2 3 x (g.four ∷ g.five ∷ g.six ∷ g.seven ∷ xs) opens.1 room refl (not-six 3 x opens.1.numbered refl)
    ∙ four-to-seven (a2 + length x) (with_section w2 3 (span_at a2 x)) g xs is room refl

one-group : (at : ℕ) (w : Walk) (g : Group) (xs : List (List ℕ)) → IsGroup g → w.found.count < 16 → may_follow w.last (first_in g.opening) ≡ true
    → judged_well at w (sections_of g ++ xs) ≡ judged_well (next_after at g) (closed w (place_of at w.force.one w.force.three g)) xs
one-group at w g xs is room order = by-opening g.opening at w g xs is.opens is room order

-- ---- groups

-- one more field in an answer's sixteen places
one_more-found : (fs : List Sections) (f : Sections) → length fs < 16 → one_more (fields_found fs) f ≡ fields_found (fs ++ (f ∷ []))
unfolding padded
one_more-found fs f h =
    let long = length-append fs (f ∷ []) in
    let left : 16 - length fs ≡ suc (16 - length (fs ++ (f ∷ []))) = omega (arith, long) in
    let same : set (padded fs) (length fs) f ≡ padded (fs ++ (f ∷ [])) = rw (left, set-append_seam fs no_sections, append_assoc) refl in
    λ i. record { refusal = no_refusal; count = sym long i; fields = same i }

-- these groups may stand behind section `last`, which is a 7 where there are none
abbrev pub Begin : ℕ → List Group → Type 0
Begin last [] = last ≡ 7
Begin last (g ∷ gs) = may_follow last (first_in g.opening) ≡ true

after-seven : (gs : List Group) → Begin 7 gs
unfolding may_follow between
after-seven [] = refl
after-seven (g ∷ gs) = by_first g.opening
  where
    by_first : (o : Opening) → may_follow 7 (first_in o) ≡ true
    by_first (at_two y x) = refl
    by_first (at_three x) = refl
    by_first at_four = refl

pub after_one : (o : Opening) → Complete o → may_follow 1 (first_in o) ≡ true
unfolding may_follow between
after_one (at_two y x) c = refl
after_one (at_three x) c = refl
after_one at_four c = absurd c

-- what is found in groups, behind fields that were found before
pub groups-found : (gs : List Group) (at : ℕ) (w : Walk) (done : List Sections) → AreGroups gs → Begin w.last gs → w.found ≡ fields_found done → length done + length gs ≤ 16
    → judged_well at w (all_sections gs) ≡ fields_found (done ++ places_of at w.force.one w.force.three gs)
unfolding all_sections AreGroups places_of judged_in end_refusal first_refusal
groups-found [] at w done are last found most = rw (eq-eqb w.last 7 last, append-nil done) found
groups-found (g ∷ gs) at w done are order found most =
    let f = place_of at w.force.one w.force.three g in
    let long = length-append done (f ∷ []) in
    let count : w.found.count ≡ length done = ap (λ (c : Cut). c.count) found in
    one-group at w g (all_sections gs) are.0 (omega (arith, count)) order
    ∙ groups-found gs (next_after at g) (closed w f) (done ++ (f ∷ [])) are.1 (after-seven gs) (ap (λ (c : Cut). one_more c f) found ∙ one_more-found done f (omega arith)) (omega (arith, long))
    ∙ ap fields_found (append_assoc done (f ∷ []) (places_of (next_after at g) w.force.one (three_at at w.force.three g.opening) gs))
