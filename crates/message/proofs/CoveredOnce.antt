-- Section 0, all sections (2 and 6 too) and the last four octets cover every octet of a message once.
-- Assumes nothing.
use Prim.Native.Nat.{ℕ, suc, ◌+◌, ◌≤◌, ◌<◌}
use native.Mathlib.Omega.{arith}
use mathlib.Core.Path.{◌≡◌, refl, ap, sym, ◌∙◌}
use mathlib.Core.Bool.{Bool, true, false, cond, ◌&&◌}
use mathlib.Core.List.{List, [], ◌∷◌, ◌++◌, append_assoc, append-nil, map}
use lib.Dec.{leb, ltb, eqb}
use lib.ListN.{length, length-append}
use borrow.Author.Tests.{le-leb, lt-leb, ltb-true, ltb-false}
use Rattle.cutting.specs.Cuts.{strung}
use Rattle.layout.specs.Spans.{octets_in}
use Rattle.layout.specs.declared.Span.{Span}
use Rattle.message.specs.Walk.{span_at}
use Rattle.message.specs.Grammar.{Is, Opening, at_two, at_three, at_four, Opens, Group, opened, all_sections, one_behind_the_other, IsGroup, AreGroups, Parts, behind_zero, IsFrame, FollowsMessage}
use Rattle.message.specs.Messages.{read_message}
use Rattle.message.specs.Covering.{spans_from, all_parts, all_spans, holds, times_in, sevens_in}
use Rattle.message.proofs.Shown.{Stands, shown-first, stands_on}
use Rattle.message.proofs.AcceptedExactlyWhen.{count-is}

-- ---- strung together they are the message

strung-append : (xs ys : List (List ℕ)) → one_behind_the_other (xs ++ ys) ≡ one_behind_the_other xs ++ one_behind_the_other ys
unfolding strung
strung-append [] ys = refl
strung-append (x ∷ xs) ys = ap (λ (l : List ℕ). x ++ l) (strung-append xs ys) ∙ sym (append_assoc x (one_behind_the_other xs) (one_behind_the_other ys))

pub parts-strung : (m : List ℕ) (p : Parts) → IsFrame m p → one_behind_the_other (all_parts p) ≡ m
unfolding strung
parts-strung m p f =
    ap (λ (l : List ℕ). p.zero ++ l) (strung-append (behind_zero p) (p.end ∷ []) ∙ ap (λ (l : List ℕ). one_behind_the_other (behind_zero p) ++ l) (append-nil p.end))
    ∙ sym f.strung

-- what stands at the places is the parts
shown-all : (xs : List (List ℕ)) (m : List ℕ) (at : ℕ) → Stands m at xs → map (λ (x : Span). octets_in x m) (spans_from at xs) ≡ xs
unfolding spans_from
shown-all [] m at s = refl
shown-all (x ∷ xs) m at s = λ i. shown-first m at x xs s i ∷ shown-all xs m (at + length x) (stands_on m at x xs s) i

pub parts-shown : (m : List ℕ) (p : Parts) → IsFrame m p → map (λ (x : Span). octets_in x m) (all_spans p) ≡ all_parts p
parts-shown m p f =
    shown-all (all_parts p) m 0 (record { before = []; after = []; long = refl; whole = sym (parts-strung m p f) ∙ sym (append-nil (one_behind_the_other (all_parts p))) })

-- ---- by places, each octet once

not-before : (x : Span) (i : ℕ) → i < x.before → holds x i ≡ false
not-before x i h = rw (lt-leb x.before i h) refl

none_before : (xs : List (List ℕ)) (at i : ℕ) → i < at → times_in (spans_from at xs) i ≡ 0
unfolding spans_from times_in
none_before [] at i h = refl
none_before (x ∷ xs) at i h = rw (not-before (span_at at x) i h) (none_before xs (at + length x) i (omega arith))

once-from : (xs : List (List ℕ)) (at i : ℕ) → at ≤ i → i < at + length (one_behind_the_other xs) → times_in (spans_from at xs) i ≡ 1
unfolding spans_from times_in strung
once-from [] at i l h = absurd (omega arith)
once-from (x ∷ xs) at i l h = by_end (once-from xs (at + length x) i) (ltb i (at + length x)) refl
  where
    by_end : (at + length x ≤ i → i < at + length x + length (one_behind_the_other xs) → times_in (spans_from (at + length x) xs) i ≡ 1) → (t : Bool) → ltb i (at + length x) ≡ t
        → cond (leb at i && ltb i (at + length x)) (suc (times_in (spans_from (at + length x) xs) i)) (times_in (spans_from (at + length x) xs) i) ≡ 1
    by_end others true e = rw (le-leb at i l, e) (ap suc (none_before xs (at + length x) i (ltb-true i (at + length x) e)))
    by_end others false e = rw (le-leb at i l, e) (others (ltb-false i (at + length x) e) (omega (arith, length-append x (one_behind_the_other xs))))

pub covered-once : (m : List ℕ) (p : Parts) → IsFrame m p → (i : ℕ) → i < length m → times_in (all_spans p) i ≡ 1
covered-once m p f i h = once-from (all_parts p) 0 i (omega arith) (omega (arith, ap length (parts-strung m p f)))

-- ---- as many fields as sections 7

no_seven : (n : ℕ) (x : List ℕ) (xs : List (List ℕ)) → Is n x → eqb n 7 ≡ false → sevens_in (x ∷ xs) ≡ sevens_in xs
unfolding sevens_in
no_seven n x xs is e = rw (is.numbered, e) refl

a_seven : (x : List ℕ) (xs : List (List ℕ)) → Is 7 x → sevens_in (x ∷ xs) ≡ suc (sevens_in xs)
unfolding sevens_in
a_seven x xs is = rw is.numbered refl

sevens-four : (g : Group) (xs : List (List ℕ)) → IsGroup g → sevens_in (g.four ∷ g.five ∷ g.six ∷ g.seven ∷ xs) ≡ suc (sevens_in xs)
sevens-four g xs is =
    no_seven 4 g.four _ is.four refl ∙ no_seven 5 g.five _ is.five refl ∙ no_seven 6 g.six _ is.six refl ∙ a_seven g.seven xs is.seven

sevens-group : (o : Opening) (g : Group) (xs : List (List ℕ)) → Opens o → IsGroup g → sevens_in ((opened o ++ (g.four ∷ g.five ∷ g.six ∷ g.seven ∷ [])) ++ xs) ≡ suc (sevens_in xs)
sevens-group at_four g xs o is = sevens-four g xs is
sevens-group (at_three x) g xs o is = no_seven 3 x _ o refl ∙ sevens-four g xs is
sevens-group (at_two y x) g xs o is = no_seven 2 y _ o.0 refl ∙ no_seven 3 x _ o.1 refl ∙ sevens-four g xs is

sevens-groups : (gs : List Group) → AreGroups gs → sevens_in (all_sections gs) ≡ length gs
unfolding all_sections AreGroups sevens_in
sevens-groups [] are = refl
sevens-groups (g ∷ gs) are = sevens-group g.opening g (all_sections gs) are.0.opens are.0 ∙ ap suc (sevens-groups gs are.1)

pub count-is-sevens : (m : List ℕ) (x : FollowsMessage m) → (read_message m).count ≡ sevens_in (behind_zero x.parts)
count-is-sevens m x =
    count-is m x ∙ sym (no_seven 1 x.parts.one (all_sections x.parts.groups) x.frame.one refl ∙ sevens-groups x.parts.groups x.frame.groups)
