-- A message is accepted, or refused with a number, a section and a place as document 01 has them; the number 0 says that it is accepted.
-- Assumes nothing.
use Prim.Native.Nat.{ℕ, ◌+◌, ◌≤◌}
use native.Mathlib.Omega.{arith}
use mathlib.Core.Path.{◌≡◌, refl, sym, ap, subst, ◌∙◌}
use mathlib.Core.Logic.{◌↔◌, inl, inr, ⊎_elim}
use mathlib.Core.Bool.{Bool, true, false}
use mathlib.Core.List.{List, [], ◌∷◌}
use lib.Dec.{eqb}
use lib.ListN.{length}
use borrow.Author.Tests.{eq-eqb}
use Rattle.std.specs.Prelude.{Ok, Err}
use Rattle.layout.specs.Outcomes.{refused, refusal, Check, no_refusal}
use Rattle.layout.specs.Spans.{nowhere}
use Rattle.layout.specs.Refusals.{Row, one_of, numbers_of, has_place, last_place, Listed}
use Rattle.layout.specs.declared.Refusal.{Refusal}
use Rattle.layout.proofs.Outcomes.{either}
use Rattle.layout.proofs.Refusals.{within, wider, placeless, AllListed, PassedOrListed, passed, listed, first-listed, proper}
use Rattle.field.specs.Field.{FieldOutcome, refused_field, read_field}
use Rattle.field.specs.Refused.{field_table}
use Rattle.field.proofs.RefusalNumbers.{RefusesField, refuses-field}
use Rattle.message.specs.Walk.{Cut, told, Walk, number_in, refused_with, unless_refused, section_reasons, section_refusal, end_reasons, end_refusal, with_section, taken, start_walk, span_at, judged_in}
use Rattle.message.specs.Grammar.{Five, Parts, fields_in, IsFrame}
use Rattle.message.specs.Messages.{start_reasons, start_refusal, ends_right, sections_in, cut_message, outcome_of, or_refused, found_in, fields_read, read_message, Accepted}
use Rattle.message.specs.Places.{places_in, fields_found}
use Rattle.message.specs.Refused.{frame_table, message_table, Decided}
use Rattle.message.proofs.Clear.{end-clear}
use Rattle.message.proofs.Frames.{frame-of}
use Rattle.message.proofs.AcceptedExactlyWhen.{frame-read, as_many, some-group, count-is, accepted-exactly-when}
use Rattle.message.proofs.FrameAndFields.{frame-first}

-- ---- one refusal, or what is said where there is none

-- none, or one that the table lists
abbrev Told : Check → Type 0
Told = PassedOrListed frame_table

refused-listed : (table : List Row) (x : Refusal) → Listed table x → Decided table (refused_with x)
refused-listed table x l = inr (refl, l)

unless-decided : (x : Check) (c : Cut) → Told x → (x ≡ Ok tt → Decided frame_table c) → Decided frame_table (unless_refused x c)
unless-decided _ c passed d = d refl
unless-decided _ c (listed x l) d = refused-listed frame_table x l

-- ---- the frame

plain : (number : ℕ) → one_of (numbers_of frame_table 0) number ≡ true → has_place number ≡ false → Listed frame_table (refusal number 0 0)
plain number l p = placeless frame_table number 0 l p

start-told : (m : List ℕ) → Told (start_refusal m)
unfolding start_refusal AllListed
start-told m =
    let wrong = plain 22 refl refl in
    first-listed frame_table 0 (start_reasons m) ((λ h. plain 2 refl refl), λ h. ((λ h. wrong), λ h. ((λ h. wrong), λ h. ((λ h. wrong), λ h. ((λ h. wrong), λ h. tt)))))

section-told : (last count : ℕ) (x : List ℕ) → Told (section_refusal last count x)
unfolding section_refusal AllListed
section-told last count x =
    first-listed frame_table 0 (section_reasons last count x) ((λ h. plain 23 refl refl), λ h. ((λ h. plain 24 refl refl), λ h. ((λ h. plain 25 refl refl), λ h. tt)))

end-told : (last : ℕ) (right : Bool) → Told (end_refusal last right)
unfolding end_refusal AllListed
end-told last right = first-listed frame_table 0 (end_reasons last right) ((λ h. plain 23 refl refl), λ h. ((λ h. plain 25 refl refl), λ h. tt))

-- nothing is refused so far, and behind a section 7 there is a field
record Ready (w : Walk) : Type 0 where
  none : w.found.refusal ≡ no_refusal
  some : w.last ≡ 7 → Accepted w.found

ready-taken : (at : ℕ) (w : Walk) (x : List ℕ) → w.found.refusal ≡ no_refusal → Ready (taken at w x)
unfolding with_section
ready-taken at w x none = record { none = either (λ (c : Cut). c.refusal ≡ no_refusal) (eqb (number_in x) 7) none none; some = λ e. rw (eq-eqb _ 7 e) (omega arith) }

judged-decided : (xs : List (List ℕ)) (whole right : Bool) (at : ℕ) (w : Walk) → Ready w → Decided frame_table (judged_in whole right at w xs)
unfolding judged_in
judged-decided [] true right at w ready =
    unless-decided _ w.found (end-told w.last right) (λ e. inl (ready.some (end-clear w.last right e).0, ready.none))
judged-decided [] false right at w ready = refused-listed frame_table (refusal 23 0 0) (plain 23 refl refl)
judged-decided (x ∷ xs) whole right at w ready =
    unless-decided _ _ (section-told w.last w.found.count x)
    (λ e. judged-decided xs whole right (at + length x) (taken at w x) (ready-taken at w x ready.none))

cut-decided : (m : List ℕ) → Decided frame_table (cut_message m)
unfolding cut_message
cut-decided m =
    unless-decided _ _ (start-told m)
    (λ e. judged-decided (sections_in m).items (sections_in m).whole (ends_right m) 16 start_walk (record { none = refl; some = λ z. absurd (omega arith) }))

-- what is no message by the grammar, whatever its fields would be, is refused with a number of the frame
pub no-frame : (m : List ℕ) → ((p : Parts) → IsFrame m p → ⊥) → Listed frame_table (read_message m).refusal
no-frame m none =
    ⊎_elim (λ y. let f = frame-of m y.0 in absurd (none f.0 f.1))
    (λ n. subst (λ (c : Cut). Listed frame_table c.refusal) (sym (frame-first m (ap (λ (c : Cut). c.count) n.0))) n.1)
    (cut-decided m)

-- ---- the fields

module _ (table : List Row) (holds : within table field_table ≡ true) where
  of_field : (o : FieldOutcome) (c : Cut) → RefusesField o → Decided table c → Decided table (or_refused o c)
  unfolding or_refused
  of_field (refused_field number section place) c l d = refused-listed table _ (wider table field_table (refusal number section place) holds l)
  of_field (read_field one three four five) c l d = d

  fields-decided : (xs : List Five) (c : Cut) → Decided table c → Decided table (fields_read c xs)
  unfolding fields_read outcome_of
  fields-decided [] c d = d
  fields-decided (x ∷ xs) c d = of_field _ _ (refuses-field x.one x.three x.four x.five x.seven) (fields-decided xs c d)

pub message-refuses : (m : List ℕ) → Decided message_table (read_message m)
unfolding read_message
message-refuses m =
    let c = cut_message m in
    let cut : Decided message_table c = ⊎_elim inl (λ n. inr (n.0, wider message_table frame_table c.refusal refl n.1)) (cut-decided m) in
    fields-decided message_table refl (found_in m c) c cut

-- and what is one by the grammar is never refused so, but as a field is
pub with-frame : (m : List ℕ) (p : Parts) → IsFrame m p → Decided field_table (read_message m)
with-frame m p f =
    let c = fields_found (places_in p) in
    let some : Accepted c = omega (arith, as_many p.groups (16 + length p.one) (span_at 16 p.one) nowhere, some-group p.groups f.first) in
    subst (Decided field_table) (sym (frame-read m p f)) (fields-decided field_table refl (fields_in p) c (inl (some, refl)))

-- ---- the number 0

never-0 : (x : Refusal) → Listed message_table x → x.number ≡ 0 → ⊥
never-0 x l = (proper message_table (refused x.number x.section x.place) refl l).0

pub accepted-is-0 : (m : List ℕ) → Accepted (read_message m) ↔ ((read_message m).refusal.number ≡ 0)
accepted-is-0 m = (
  λ a. ⊎_elim (λ y. ap (λ (x : Refusal). x.number) y.1) (λ n. absurd (omega (arith, ap (λ (c : Cut). c.count) n.0, a))) (message-refuses m),
  λ e. ⊎_elim (λ y. y.0) (λ n. absurd (never-0 (read_message m).refusal n.1 e)) (message-refuses m),
)

-- so the refusal that a program answers has another number
pub refused-some : (m : List ℕ) (x : Refusal) → told (Err x) ≡ read_message m → x.number ≡ 0 → ⊥
refused-some m x e z =
    let some = (accepted-is-0 m).1 (ap (λ (c : Cut). c.refusal.number) (sym e) ∙ z) in
    let none = ap (λ (c : Cut). c.count) e in
    absurd (omega (arith, some, none))

-- ---- what an answer's numbers are at most

pub place-within : (m : List ℕ) → (read_message m).refusal.place ≤ last_place
place-within m = ⊎_elim (λ y. omega (arith, ap (λ (x : Refusal). x.place) y.1)) (λ n. n.1.placed.within) (message-refuses m)

pub few-fields : (m : List ℕ) → (read_message m).count ≤ 16
few-fields m =
    ⊎_elim (λ y. let x = (accepted-exactly-when m).0 y.0 in omega (arith, count-is m x, x.frame.most))
    (λ n. omega (arith, ap (λ (c : Cut). c.count) n.0))
    (message-refuses m)
