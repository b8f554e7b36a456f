-- The frame of a message is accepted exactly when it is section 0, section 1, groups and 7777, and then its fields stand where they stand.
-- Assumes nothing.
use Prim.Native.Nat.{ℕ, ◌+◌, ◌-◌, ◌≤◌}
use native.Mathlib.Omega.{arith}
use mathlib.Core.Path.{◌≡◌, refl, ap, sym, ◌∙◌}
use mathlib.Core.Bool.{true}
use mathlib.Core.Logic.{inr}
use mathlib.Core.List.{List, [], ◌∷◌, ◌++◌, append_assoc}
use lib.ListN.{length, take, drop, length-append, length-drop, take-append-drop}
use lib.Seq.{length-take-le, take_at, drop_at, take-take}
use borrow.Author.Tests.{eqb-true, eq-eqb}
use Rattle.octets.specs.Octets.{be_at}
use Rattle.octets.proofs.Laws.{be_at-drop, be_at-ahead, be_at-take}
use Rattle.cutting.proofs.Sections.{cut-sections, sections-back}
use Rattle.message.specs.Walk.{may_follow, with_section, in_force, start_walk, judged, span_at}
use Rattle.message.specs.Grammar.{Is, FirstComplete, Group, all_sections, one_behind_the_other, AreGroups, Parts, behind_zero, IsFrame}
use Rattle.message.specs.Messages.{ends_right, body_of, sections_in, cut_message, Accepted}
use Rattle.message.specs.Places.{places_in, fields_found, padded}
use Rattle.message.specs.FirstPlace.{Starts}
use Rattle.message.proofs.Clear.{starts, started}
use Rattle.message.proofs.Sizes.{AllSized, each-sized, all-sized, sized-groups}
use Rattle.message.proofs.Steps.{Steps, unless-accepted, judged-steps}
use Rattle.message.proofs.Parsing.{next, cutoff, Grouped, grouped, together}
use Rattle.message.proofs.Grouped.{one-section, not-six, after_one, groups-found}

-- ---- a frame that is accepted is one

-- section 1, and the groups, of which the first is complete
record Sections1 (xs : List (List ℕ)) : Type 0 where
  one : List ℕ
  groups : List Group
  same : xs ≡ one ∷ all_sections groups
  is : Is 1 one
  are : AreGroups groups
  first : FirstComplete groups
  most : length groups ≤ 16

first_group : (xs : List (List ℕ)) → Steps 1 0 xs → AllSized xs → (g : Grouped 0 xs) × FirstComplete g.groups
unfolding Steps together
first_group [] s z = absurd (omega arith)
first_group (x ∷ xs) s z =
    let c = cutoff 1 0 x xs (inr refl) s z in
    (together 1 0 (x ∷ xs) c (grouped (length c.rest) 1 c.rest (omega arith) (omega arith) c.steps c.sized), c.complete refl)

sections1 : (xs : List (List ℕ)) → Steps 0 0 xs → AllSized xs → Sections1 xs
sections1 xs s z =
    let a = next 0 0 xs (λ e. omega arith) (λ e. omega arith) s z in
    let g = first_group a.rest a.steps a.sized in
    record {
      one = a.x;
      groups = g.0.groups;
      same = a.same ∙ ap (λ (l : List (List ℕ)). a.x ∷ l) g.0.same;
      is = a.is;
      are = g.0.are;
      first = g.1;
      most = omega (arith, g.0.most);
    }

-- a message in three: 16 octets, what stands between, 4 octets
three-parts : (m : List ℕ) → 20 ≤ length m → m ≡ take 16 m ++ (drop 16 (body_of m) ++ drop (length m - 4) m)
three-parts m h =
    let head : take 16 (body_of m) ≡ take 16 m = take-take 16 (length m - 4) m (omega arith) in
    sym (
    sym (append_assoc (take 16 m) (drop 16 (body_of m)) (drop (length m - 4) m))
    ∙ ap (λ (l : List ℕ). (l ++ drop 16 (body_of m)) ++ drop (length m - 4) m) (sym head)
    ∙ ap (λ (l : List ℕ). l ++ drop (length m - 4) m) (take-append-drop 16 (body_of m))
    ∙ take-append-drop (length m - 4) m
    )

-- the last four octets by their place in the message
pub last-four : (m : List ℕ) → be_at (drop (length m - 4) m) 1 4 ≡ be_at m (length m - 4 + 1) 4
last-four m =
    let place : 1 + (length m - 4) ≡ length m - 4 + 1 = omega arith in
    be_at-drop m (length m - 4) 1 4 (omega arith) ∙ ap (λ (n : ℕ). be_at m n 4) place

pub frame-of : (m : List ℕ) → Accepted (cut_message m) → (p : Parts) × IsFrame m p
unfolding cut_message
frame-of m a =
    let b = unless-accepted _ _ a in
    let t = starts m b.0 in
    let j = judged-steps (sections_in m).items (sections_in m).whole (ends_right m) 16 start_walk b.1 in
    let back = sections-back (drop 16 (body_of m)) j.all in
    let x = sections1 (sections_in m).items j.steps (all-sized (sections_in m).items back.1) in
    let middle : drop 16 (body_of m) ≡ one_behind_the_other (x.one ∷ all_sections x.groups) = sym back.0 ∙ ap one_behind_the_other x.same in
    let first : (at width : ℕ) → at + width ≤ 17 → be_at (take 16 m) at width ≡ be_at m at width = λ at width h. be_at-take m 16 at width (omega (arith, t.least)) h in (
      record { zero = take 16 m; one = x.one; groups = x.groups; end = drop (length m - 4) m },
      record {
        strung = three-parts m t.least ∙ ap (λ (l : List ℕ). take 16 m ++ (l ++ drop (length m - 4) m)) middle;
        short = t.short;
        sixteen = length-take-le 16 m (omega (arith, t.least));
        start = first 1 4 (omega arith) ∙ t.start;
        edition = first 8 1 (omega arith) ∙ t.edition;
        total = first 9 8 (omega arith) ∙ t.total;
        one = x.is;
        groups = x.are;
        first = x.first;
        most = x.most;
        four = omega (arith, length-drop (length m - 4) m, t.least);
        sevens = last-four m ∙ eqb-true _ _ j.ended;
      },
    )

-- ---- and a frame is accepted

-- of 16 octets, those between, and 4 octets
module _ (m zero mid end : List ℕ) (strung : m ≡ zero ++ (mid ++ end)) (sixteen : length zero ≡ 16) (four : length end ≡ 4) where
  whole : m ≡ (zero ++ mid) ++ end
  whole = strung ∙ sym (append_assoc zero mid end)

  long : length (zero ++ mid) ≡ length m - 4
  long = omega (arith, ap length whole, length-append (zero ++ mid) end)

  first-16 : take 16 m ≡ zero
  first-16 = ap (take 16) strung ∙ take_at zero (mid ++ end) 16 sixteen

  pub last-4 : drop (length m - 4) m ≡ end
  last-4 = ap (drop (length m - 4)) whole ∙ drop_at (zero ++ mid) end (length m - 4) long

  pub middle : drop 16 (body_of m) ≡ mid
  middle =
      ap (λ (s : List ℕ). drop 16 (take (length m - 4) s)) whole
      ∙ ap (drop 16) (take_at (zero ++ mid) end (length m - 4) long)
      ∙ drop_at zero mid 16 sixteen

module _ (m : List ℕ) (p : Parts) (f : IsFrame m p) where
  pub zero_is : take 16 m ≡ p.zero
  zero_is = first-16 m p.zero (one_behind_the_other (behind_zero p)) p.end f.strung f.sixteen f.four

  pub end_is : drop (length m - 4) m ≡ p.end
  end_is = last-4 m p.zero (one_behind_the_other (behind_zero p)) p.end f.strung f.sixteen f.four

  pub sections-are : sections_in m ≡ record { items = behind_zero p; whole = true }
  unfolding AllSized
  sections-are =
      rw (middle m p.zero (one_behind_the_other (behind_zero p)) p.end f.strung f.sixteen f.four)
      (cut-sections (behind_zero p) (each-sized (behind_zero p) (f.one.sized, sized-groups p.groups f.groups)))

  frame-starts : Starts m
  frame-starts =
      let rest = one_behind_the_other (behind_zero p) ++ p.end in
      let first : (at width : ℕ) → at + width ≤ 17 → be_at m at width ≡ be_at p.zero at width = λ at width h. ap (λ (l : List ℕ). be_at l at width) f.strung ∙ be_at-ahead p.zero rest at width (omega (arith, f.sixteen)) in
      record {
        short = f.short;
        least = omega (arith, ap length f.strung, length-append p.zero rest, length-append (one_behind_the_other (behind_zero p)) p.end, f.sixteen, f.four);
        start = first 1 4 (omega arith) ∙ f.start;
        edition = first 8 1 (omega arith) ∙ f.edition;
        total = first 9 8 (omega arith) ∙ f.total;
      }

  ends_so : ends_right m ≡ true
  ends_so = eq-eqb _ _ (sym (last-four m) ∙ ap (λ (l : List ℕ). be_at l 1 4) end_is ∙ f.sevens)

all_found : (one : List ℕ) (gs : List Group) → Is 1 one → AreGroups gs → FirstComplete gs → length gs ≤ 16
    → judged true 16 start_walk (record { items = one ∷ all_sections gs; whole = true }) ≡ fields_found (places_in (record { zero = []; one = one; groups = gs; end = [] }))
unfolding with_section in_force may_follow padded
all_found one [] is are first most = absurd first
all_found one (g ∷ gs) is are first most =
    one-section 16 start_walk 1 one (all_sections (g ∷ gs)) is (omega arith) refl (not-six 1 one is.numbered refl)
    ∙ groups-found (g ∷ gs) (16 + length one) (with_section start_walk 1 (span_at 16 one)) [] are (after_one g.opening first) refl (omega (arith, most))

pub frame_found : (m : List ℕ) (p : Parts) → IsFrame m p → cut_message m ≡ fields_found (places_in p)
unfolding cut_message
frame_found m p f =
    rw (started m (frame-starts m p f), ends_so m p f, sections-are m p f)
    (all_found p.one p.groups f.one f.groups f.first f.most)
