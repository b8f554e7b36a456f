-- The sections that an answer shows of a message are those very octets, in order, and of the groups those in force; and the message has them all.
-- Assumes nothing.
use Prim.Native.Nat.{ℕ, zero, suc, ◌+◌}
use native.Mathlib.Omega.{arith}
use mathlib.Core.Path.{◌≡◌, refl, ap, sym, ◌∙◌}
use mathlib.Core.List.{List, [], ◌∷◌, ◌++◌, append_assoc, map}
use lib.ListN.{length, take, drop, get_or, length-append}
use lib.Seq.{take-append_seam, drop_at}
use Rattle.cutting.specs.Cuts.{strung}
use Rattle.layout.specs.Spans.{nowhere, octets_in, Within}
use Rattle.layout.specs.declared.Span.{Span}
use Rattle.message.specs.declared.Sections.{Sections}
use Rattle.message.specs.Walk.{no_sections, span_at}
use Rattle.message.specs.Grammar.{Opening, at_two, at_three, at_four, Group, Five, opened, all_sections, one_behind_the_other, three_after, fields_of, fields_in, Parts, behind_zero, IsFrame}
use Rattle.message.specs.Messages.{shown_in}
use Rattle.message.specs.Places.{four_after, three_at, next_after, places_of, places_in, FieldWithin}

-- a section that stands behind so many octets is shown there
shown-at : (m pre x rest : List ℕ) (at : ℕ) → m ≡ pre ++ (x ++ rest) → length pre ≡ at → octets_in (span_at at x) m ≡ x
shown-at m pre x rest at e l =
    ap (λ (s : List ℕ). take (length x) (drop at s)) e
    ∙ ap (take (length x)) (drop_at pre (x ++ rest) at l)
    ∙ take-append_seam x rest

-- and what stands behind it
pub behind : (m pre x rest : List ℕ) → m ≡ pre ++ (x ++ rest) → m ≡ (pre ++ x) ++ rest
behind m pre x rest e = e ∙ sym (append_assoc pre x rest)

longer : (pre x : List ℕ) (at : ℕ) → length pre ≡ at → length (pre ++ x) ≡ at + length x
longer pre x at l = length-append pre x ∙ ap (λ (n : ℕ). n + length x) l

-- what stands at a place, all of it within the message
record Shows (m : List ℕ) (span : Span) (x : List ℕ) : Type 0 where
  octets : octets_in span m ≡ x
  within : Within span m

-- ---- a list of sections that stands behind octets

-- so many octets, and then these sections, and what follows them
pub record Stands (m : List ℕ) (at : ℕ) (xs : List (List ℕ)) : Type 0 where
  pub before : List ℕ
  pub after : List ℕ
  pub long : length before ≡ at
  pub whole : m ≡ before ++ (one_behind_the_other xs ++ after)

module _ (m : List ℕ) (at : ℕ) (x : List ℕ) (xs : List (List ℕ)) (s : Stands m at (x ∷ xs)) where
  cut-whole : m ≡ s.before ++ (x ++ (one_behind_the_other xs ++ s.after))
  unfolding strung
  cut-whole = s.whole ∙ ap (λ (l : List ℕ). s.before ++ l) (append_assoc x (one_behind_the_other xs) s.after)

  pub shown-first : octets_in (span_at at x) m ≡ x
  shown-first = shown-at m s.before x (one_behind_the_other xs ++ s.after) at cut-whole s.long

  shows_first : Shows m (span_at at x) x
  shows_first =
      let rest = one_behind_the_other xs ++ s.after in
      record { octets = shown-first; within = omega (arith, s.long, ap length cut-whole, length-append s.before (x ++ rest), length-append x rest) }

  pub stands_on : Stands m (at + length x) xs
  stands_on =
      record {
        before = s.before ++ x;
        after = s.after;
        long = longer s.before x at s.long;
        whole = behind m s.before x (one_behind_the_other xs ++ s.after) cut-whole;
      }

-- ---- a group

-- sections 4, 5 and 7 of a group whose section 4 stands after octet `at`
record ShownFour (m : List ℕ) (at : ℕ) (g : Group) (xs : List (List ℕ)) : Type 0 where
  four : Shows m (span_at at g.four) g.four
  five : Shows m (span_at (at + length g.four) g.five) g.five
  seven : Shows m (span_at (at + length g.four + length g.five + length g.six) g.seven) g.seven
  rest : Stands m (at + length g.four + length g.five + length g.six + length g.seven) xs

from-four : (m : List ℕ) (at : ℕ) (g : Group) (xs : List (List ℕ)) → Stands m at (g.four ∷ g.five ∷ g.six ∷ g.seven ∷ xs) → ShownFour m at g xs
from-four m at g xs s =
    let s5 = stands_on m at g.four (g.five ∷ g.six ∷ g.seven ∷ xs) s in
    let s6 = stands_on m (at + length g.four) g.five (g.six ∷ g.seven ∷ xs) s5 in
    let s7 = stands_on m (at + length g.four + length g.five) g.six (g.seven ∷ xs) s6 in
    record {
      four = shows_first m at g.four (g.five ∷ g.six ∷ g.seven ∷ xs) s;
      five = shows_first m (at + length g.four) g.five (g.six ∷ g.seven ∷ xs) s5;
      seven = shows_first m (at + length g.four + length g.five + length g.six) g.seven xs s7;
      rest = stands_on m (at + length g.four + length g.five + length g.six) g.seven xs s7;
    }

-- with the section 3 in force
record ShownGroup (m : List ℕ) (at : ℕ) (o : Opening) (g : Group) (three : List ℕ) (before : Span) (xs : List (List ℕ)) : Type 0 where
  three-is : Shows m (three_at at before o) (three_after three o)
  others : ShownFour m (four_after at o) g xs

shown-group : (o : Opening) (m : List ℕ) (at : ℕ) (g : Group) (three : List ℕ) (before : Span) (xs : List (List ℕ)) → Shows m before three
    → Stands m at ((opened o ++ (g.four ∷ g.five ∷ g.six ∷ g.seven ∷ [])) ++ xs) → ShownGroup m at o g three before xs
shown-group at_four m at g three before xs b s = record { three-is = b; others = from-four m at g xs s }
shown-group (at_three x) m at g three before xs b s =
    let ys = g.four ∷ g.five ∷ g.six ∷ g.seven ∷ xs in
    record { three-is = shows_first m at x ys s; others = from-four m (at + length x) g xs (stands_on m at x ys s) }
shown-group (at_two y x) m at g three before xs b s =
    let ys = g.four ∷ g.five ∷ g.six ∷ g.seven ∷ xs in
    let s3 = stands_on m at y (x ∷ ys) s in
    record { three-is = shows_first m (at + length y) x ys s3; others = from-four m (at + length y + length x) g xs (stands_on m (at + length y) x ys s3) }

-- ---- groups

pub nowhere-within : (m : List ℕ) → FieldWithin no_sections m
nowhere-within m = record { one = omega arith; three = omega arith; four = omega arith; five = omega arith; seven = omega arith }

-- fields that stand there are shown, and each of them is within the message
unfoldable AllWithin : List Sections → List ℕ → Type 0
AllWithin [] m = Unit {0}
AllWithin (f ∷ fs) m = FieldWithin f m × AllWithin fs m

record ShowsAll (m : List ℕ) (fs : List Sections) (xs : List Five) : Type 0 where
  octets : map (shown_in m) fs ≡ xs
  within : AllWithin fs m

shown : (gs : List Group) (m : List ℕ) (at : ℕ) (one three : List ℕ) (span_one span_three : Span) → Shows m span_one one → Shows m span_three three → Stands m at (all_sections gs)
    → ShowsAll m (places_of at span_one span_three gs) (fields_of one three gs)
unfolding all_sections places_of fields_of AllWithin
shown [] m at one three a b e f s = record { octets = refl; within = tt }
shown (g ∷ gs) m at one three a b e f s =
    let r = shown-group g.opening m at g three b (all_sections gs) f s in
    let x = r.others in
    let rest = shown gs m (next_after at g) one (three_after three g.opening) a (three_at at b g.opening) e r.three-is x.rest in
    record {
      octets = λ i. record { one = e.octets i; three = r.three-is.octets i; four = x.four.octets i; five = x.five.octets i; seven = x.seven.octets i } ∷ rest.octets i;
      within = (record { one = e.within; three = r.three-is.within; four = x.four.within; five = x.five.within; seven = x.seven.within }, rest.within);
    }

frame-stands : (m : List ℕ) (p : Parts) → IsFrame m p → Stands m 16 (behind_zero p)
frame-stands m p f = record { before = p.zero; after = p.end; long = f.sixteen; whole = f.strung }

frame-shows : (m : List ℕ) (p : Parts) → IsFrame m p → ShowsAll m (places_in p) (fields_in p)
frame-shows m p f =
    let s = frame-stands m p f in
    shown p.groups m (16 + length p.one) p.one [] (span_at 16 p.one) nowhere (shows_first m 16 p.one (all_sections p.groups) s) (record { octets = refl; within = omega arith }) (stands_on m 16 p.one (all_sections p.groups) s)

-- The fields of a message, as its answer shows them, are those that its groups leave in force.
pub frame-shown : (m : List ℕ) (p : Parts) → IsFrame m p → map (shown_in m) (places_in p) ≡ fields_in p
frame-shown m p f = (frame-shows m p f).octets

-- And each of them is within the message, also what stands for one that is not there.
each_within : (fs : List Sections) (m : List ℕ) (k : ℕ) → AllWithin fs m → FieldWithin (get_or fs k no_sections) m
unfolding AllWithin
each_within [] m k a = nowhere-within m
each_within (f ∷ fs) m zero a = a.0
each_within (f ∷ fs) m (suc k) a = each_within fs m k a.1

pub frame-within : (m : List ℕ) (p : Parts) → IsFrame m p → (k : ℕ) → FieldWithin (get_or (places_in p) k no_sections) m
frame-within m p f k = each_within (places_in p) m k (frame-shows m p f).within
