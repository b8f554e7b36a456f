-- "22, then 23 to 25 at the first place met, the lower first": with which number the frame of a message is refused, by what is wrong there.
-- Assumes nothing.
use Prim.Native.Nat.{ℕ, ◌+◌, ◌≤◌, ◌<◌}
use native.Mathlib.Omega.{arith}
use mathlib.Core.Path.{◌≡◌, refl, ap, sym, subst, ◌∙◌}
use mathlib.Core.Bool.{Bool, true, false, cond}
use mathlib.Core.Logic.{⊎_elim}
use mathlib.Core.List.{List, [], ◌∷◌, ◌++◌}
use lib.Dec.{eqb}
use lib.ListN.{length, drop}
use borrow.Author.Tests.{lt-ltb, le-ltb, eq-eqb, ne_eqb}
use Rattle.octets.specs.Octets.{be_at}
use Rattle.std.specs.Prelude.{Ok, Err}
use Rattle.layout.specs.Outcomes.{Reason, refusal, Check, first_refusal}
use Rattle.layout.proofs.Refusals.{by-test}
use Rattle.cutting.specs.Cuts.{Cut as Pieces, no_item, in_front, cut_of}
use Rattle.cutting.specs.Sections.{section_step}
use Rattle.cutting.proofs.Cuts.{cut-item, cut-stopped, cut-end}
use Rattle.cutting.proofs.Strung.{cut-both}
use Rattle.cutting.proofs.Sections.{whole-or-none, sections-advance, sections-look-no-further, sized-spells, cut-sections}
use Rattle.message.specs.Walk.{Cut}
use Rattle.message.specs.Walk.{Walk, number_in, may_follow, other_six, section_refusal, end_refusal, with_section, taken, start_walk, unless_refused, judged_in}
use Rattle.message.specs.Grammar.{one_behind_the_other}
use Rattle.message.specs.Messages.{start_reasons, start_refusal, ends_right, sections_in, cut_message, read_message}
use Rattle.message.specs.FirstPlace.{Starts, Passed, Reached, NoSection, Begins, frame_refused}
use Rattle.message.proofs.Clear.{unrefused, starts, started}
use Rattle.message.proofs.Sizes.{AllSized, each-sized}
use Rattle.message.proofs.Steps.{count-after}
use Rattle.message.proofs.Walks.{judged-on}
use Rattle.message.proofs.Frames.{last-4, middle, last-four}
use Rattle.message.proofs.FrameAndFields.{frame-first}

-- what is refused by the frame is refused
by-frame : (m : List ℕ) (number : ℕ) → cut_message m ≡ frame_refused number → read_message m ≡ frame_refused number
by-frame m number e = frame-first m (ap (λ (c : Cut). c.count) e) ∙ e

unless-refused : (x : Check) (c : Cut) (number : ℕ) → x ≡ Err (refusal number 0 0) → unless_refused x c ≡ frame_refused number
unless-refused x c number e = ap (λ (y : Check). unless_refused y c) e

-- ---- the start

pub too_long : (m : List ℕ) → 65536 < length m → read_message m ≡ frame_refused 2
unfolding cut_message start_refusal first_refusal
too_long m h = by-frame m 2 (unless-refused (start_refusal m) _ 2 (rw (lt-ltb 65536 (length m) h) refl))

-- reasons that all have one number
abbrev AllAre : ℕ → List Reason → Type 0
AllAre number [] = Unit {0}
AllAre number (r ∷ rs) = (refusal r.number 0 r.place ≡ refusal number 0 0) × AllAre number rs

one_number : (number : ℕ) (rs : List Reason) → AllAre number rs → (first_refusal 0 rs ≡ Ok tt → ⊥) → first_refusal 0 rs ≡ Err (refusal number 0 0)
unfolding first_refusal
one_number number [] are some = absurd (some refl)
one_number number (r ∷ rs) are some =
    by-test (λ (t : Bool). let x = cond t (Err (refusal r.number 0 r.place)) (first_refusal 0 rs) in (x ≡ Ok tt → ⊥) → x ≡ Err (refusal number 0 0)) r.holds
    (λ e z. ap Err are.0) (λ e z. one_number number rs are.1 z) some

start-22 : (m : List ℕ) → length m ≤ 65536 → (start_refusal m ≡ Ok tt → ⊥) → start_refusal m ≡ Err (refusal 22 0 0)
unfolding start_refusal first_refusal
start-22 m h some =
    let short = le-ltb 65536 (length m) h in
    let others = first_refusal 0 (drop 1 (start_reasons m)) in
    let first : start_refusal m ≡ others = rw short refl in
    first ∙ one_number 22 (drop 1 (start_reasons m)) (refl, (refl, (refl, (refl, tt)))) (λ e. some (first ∙ e))

pub wrong_start : (m : List ℕ) → length m ≤ 65536 → (Starts m → ⊥) → read_message m ≡ frame_refused 22
unfolding cut_message
wrong_start m h wrong = by-frame m 22 (unless-refused (start_refusal m) _ 22 (start-22 m h (λ e. wrong (starts m e))))

-- ---- a walk over sections that are as they should be

record Came (whole right : Bool) (at : ℕ) (w : Walk) (before ys : List (List ℕ)) (last count : ℕ) : Type 0 where
  to : ℕ
  walk : Walk
  last-is : walk.last ≡ last
  count-is : walk.found.count ≡ count
  same : judged_in whole right at w (before ++ ys) ≡ judged_in whole right to walk ys

come : (before ys : List (List ℕ)) (whole right : Bool) (at : ℕ) (w : Walk) (last count : ℕ) → Passed w.last w.found.count before last count → Came whole right at w before ys last count
unfolding Passed with_section
come [] ys whole right at w last count p = record { to = at; walk = w; last-is = p.0; count-is = p.1; same = refl }
come (x ∷ xs) ys whole right at w last count p =
    let counted = count-after (eqb (number_in x) 7) w.found (taken at w x).force in
    let c = come xs ys whole right (at + length x) (taken at w x) last count (subst (λ (k : ℕ). Passed (number_in x) k xs last count) (sym counted) p.2) in
    record {
      to = c.to;
      walk = c.walk;
      last-is = c.last-is;
      count-is = c.count-is;
      same = judged-on whole right at w x (xs ++ ys) (unrefused w.last w.found.count x p.1) ∙ c.same;
    }

all-sized : (xs : List (List ℕ)) (last count end fields : ℕ) → Passed last count xs end fields → AllSized xs
unfolding Passed AllSized
all-sized [] last count end fields p = tt
all-sized (x ∷ xs) last count end fields p = (p.0, all-sized xs _ _ end fields p.2)

-- ---- a place

no_step : (s : List ℕ) → NoSection s → section_step s ≡ no_item
no_step s none =
    ⊎_elim (λ e. e)
    (λ w. absurd (⊎_elim (λ few. omega (arith, w.least, w.inside, few)) (⊎_elim (λ small. omega (arith, w.least, small)) (λ far. omega (arith, w.inside, far))) none))
    (whole-or-none s)

module _ (m : List ℕ) (before : List (List ℕ)) (last count : ℕ) (left end : List ℕ) (r : Reached m before last count left end) where
  cut-so : sections_in m ≡ record { items = before ++ (cut_of section_step left).items; whole = (cut_of section_step left).whole }
  cut-so =
      let own = cut-sections before (each-sized before (all-sized before 0 0 last count r.passed)) in
      ap (cut_of section_step) (middle m r.zero (one_behind_the_other before ++ left) end r.strung r.sixteen r.four)
      ∙ cut-both section_step sections-advance sections-look-no-further (one_behind_the_other before) left (ap (λ (c : Pieces (List ℕ)). c.whole) own)
      ∙ ap (λ (c : Pieces (List ℕ)). record { items = c.items ++ (cut_of section_step left).items; whole = (cut_of section_step left).whole }) own

  came : (c : Pieces (List ℕ)) → Came c.whole (ends_right m) 16 start_walk before c.items last count
  came c = come before c.items c.whole (ends_right m) 16 start_walk last count r.passed

  -- what is left is cut so, and judged from there on
  judged-so : (c : Pieces (List ℕ)) → cut_of section_step left ≡ c → cut_message m ≡ judged_in c.whole (ends_right m) (came c).to (came c).walk c.items
  unfolding cut_message
  judged-so c e =
      rw (started m r.starts, cut-so, e) (came c).same

  refused-so : (c : Pieces (List ℕ)) (number : ℕ) → cut_of section_step left ≡ c → judged_in c.whole (ends_right m) (came c).to (came c).walk c.items ≡ frame_refused number → read_message m ≡ frame_refused number
  refused-so c number e f = by-frame m number (judged-so c e ∙ f)

  pub no-section : 1 ≤ length left → NoSection left → read_message m ≡ frame_refused 23
  unfolding judged_in
  no-section some none = refused-so (record { items = []; whole = false }) 23 (cut-stopped section_step sections-advance left some (no_step left none)) refl

  -- a section stands there that is refused with this number
  at-section : (x : List ℕ) → Begins left x → (number : ℕ) → section_refusal last count x ≡ Err (refusal number 0 0) → read_message m ≡ frame_refused number
  unfolding judged_in
  at-section x b number e =
      let s = x ++ b.behind in
      let rest = cut_of section_step (drop (length x) s) in
      let c = in_front x rest in
      let w = came c in
      refused-so c number (ap (cut_of section_step) b.is ∙ cut-item section_step sections-advance s x (length x) (sized-spells x b.sized b.behind))
      (unless-refused _ _ number ((λ i. section_refusal (w.last-is i) (w.count-is i) x) ∙ e))

  pub out_of_order : (x : List ℕ) → Begins left x → may_follow last (number_in x) ≡ false → read_message m ≡ frame_refused 23
  unfolding section_refusal first_refusal
  out_of_order x b order = at-section x b 23 (rw order refl)

  pub another-six : (x : List ℕ) → Begins left x → may_follow last (number_in x) ≡ true → other_six x ≡ true → read_message m ≡ frame_refused 24
  unfolding section_refusal first_refusal
  another-six x b order six = at-section x b 24 (rw (order, six) refl)

  pub after-the-16th : (x : List ℕ) → Begins left x → may_follow last (number_in x) ≡ true → other_six x ≡ false → 16 ≤ count → read_message m ≡ frame_refused 25
  unfolding section_refusal first_refusal
  after-the-16th x b order six many = at-section x b 25 (rw (order, six, lt-ltb 15 count (omega arith)) refl)

  -- no octet is left before the last four, and they are refused with this number
  at-end : left ≡ [] → (number : ℕ) → end_refusal last (ends_right m) ≡ Err (refusal number 0 0) → read_message m ≡ frame_refused number
  unfolding judged_in
  at-end none number e =
      let c : Pieces (List ℕ) = record { items = []; whole = true } in
      refused-so c number (cut-end section_step sections-advance left (omega (arith, ap length none)))
      (unless-refused _ _ number (ap (λ (l : ℕ). end_refusal l (ends_right m)) (came c).last-is ∙ e))

  pub section-missing : left ≡ [] → (last ≡ 7 → ⊥) → read_message m ≡ frame_refused 23
  unfolding end_refusal first_refusal
  section-missing none other = at-end none 23 (rw (ne_eqb last 7 other) refl)

  pub not-7777 : left ≡ [] → last ≡ 7 → (be_at end 1 4 ≡ 0x37373737 → ⊥) → read_message m ≡ frame_refused 25
  unfolding end_refusal first_refusal
  not-7777 none seven other =
      let ends = sym (last-four m) ∙ ap (λ (l : List ℕ). be_at l 1 4) (last-4 m r.zero (one_behind_the_other before ++ left) end r.strung r.sixteen r.four) in
      at-end none 25 (rw (eq-eqb last 7 seven, ne_eqb _ 0x37373737 (λ e. other (sym ends ∙ e))) refl)
