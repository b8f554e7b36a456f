-- Reading the fields that were found, from the first to the last; what the field before has too is not read again.
-- Assumes nothing.
use Prim.Native.Nat.{ℕ, ◌+◌, ◌≤◌, ◌<◌}
use native.Mathlib.Omega.{arith}
use native.Mathlib.Numerals.{add-one}
use borrow.Author.Tests.{eqb-true}
use mathlib.Core.Path.{◌≡◌, refl, ap, sym, subst, ◌∙◌}
use mathlib.Core.Bool.{true, not}
use mathlib.Core.List.{List, [], ◌∷◌, map}
use lib.Dec.{eqb}
use lib.ListN.{length, drop, get_or, drop_of_length-le}
use lib.Seq.{drop-cons}
use Rattle.layout.specs.Fields.{Value}
use Rattle.layout.specs.Outcomes.{Outcome, refused, read, and_then, check_of, and_check, told}
use Rattle.std.specs.Prelude.{Ok, Err}
use Rattle.layout.specs.Spans.{octets_in}
use Rattle.layout.specs.declared.Span.{Span}
use Rattle.layout.specs.declared.Refusal.{Refusal}
use Rattle.layout.proofs.Ranges.{both_hold, test-differs}
use Rattle.identification.specs.Section1.{outcome₁}
use Rattle.identification.proofs.AcceptedExactlyWhen.{accepted-exactly-when as exactly₁}
use Rattle.grid.specs.Section3.{outcome₃}
use Rattle.grid.proofs.AcceptedExactlyWhen.{accepted-exactly-when as exactly₃}
use Rattle.field.specs.Field.{FieldOutcome, refused_field, read_field, points_at, later_outcome, field_check}
use Rattle.field.specs.Accepted.{AcceptedField}
use Rattle.field.proofs.Later.{first-refusal}
use Rattle.message.specs.declared.Sections.{Sections}
use Rattle.message.specs.Walk.{Cut}
use Rattle.message.specs.Walk.{refused_with}
use Rattle.message.specs.Grammar.{Five}
use Rattle.message.specs.Messages.{shown_in, outcome_of, same_section, WasRead, OpeningRead, or_refused, fields_read}
use Rattle.message.proofs.AcceptedExactlyWhen.{taken-on, follows-five}

-- a section that stands where one stands that was read
pub again : (outcome : List ℕ → Outcome) (m : List ℕ) (before x : Span) → WasRead outcome m before → same_section before x ≡ true → (vs : List Value) × (outcome (octets_in x m) ≡ read vs)
unfolding same_section
again outcome m before x was same =
    let some = both_hold (not (eqb before.length 0)) _ same in
    let place = both_hold (eqb before.before x.before) (eqb before.length x.length) some.1 in
    let at = eqb-true before.before x.before place.0 in
    let long = eqb-true before.length x.length place.1 in
    let is : before ≡ x = λ i. record { before = at i; length = long i } in
    subst (λ (y : Span). (vs : List Value) × (outcome (octets_in y m) ≡ read vs)) is (was (omega (arith, test-differs before.length 0 some.0)))

-- ---- sections 1 and 3, and then the others

and_checked : (a b : Outcome) → check_of (and_then a b) ≡ and_check (check_of a) (check_of b)
unfolding and_then and_check
and_checked (refused number section place) b = refl
and_checked (read vs) b = refl

-- a field's check is that of section 1, then of section 3, and then that of the others
pub field_checks : (x : Five) → field_check (outcome_of x) ≡ and_check (check_of (outcome₁ x.one)) (and_check (check_of (outcome₃ x.three)) (check_of (later_outcome (points_at x.three) x.four x.five x.seven)))
unfolding outcome_of
field_checks x = first-refusal x.one x.three x.four x.five x.seven ∙ and_checked (outcome₁ x.one) _ ∙ ap (and_check (check_of (outcome₁ x.one))) (and_checked (outcome₃ x.three) _)

-- ---- a section alone: what a reader answers is its check, or it was read where it stands

pub refused_check : {A : Type 0} (values : A → List Value) (x : Refusal) (o : Outcome) → told values (Err x) ≡ o → Err x ≡ check_of o
refused_check values x o e = ap check_of e

pub passed_check : {A : Type 0} (values : A → List Value) (a : A) (o : Outcome) → told values (Ok a) ≡ o → Ok tt ≡ check_of o
passed_check values a o e = ap check_of e

pub again_check : (outcome : List ℕ → Outcome) (m : List ℕ) (before x : Span) → WasRead outcome m before → same_section before x ≡ true → Ok tt ≡ check_of (outcome (octets_in x m))
again_check outcome m before x was same = let read = again outcome m before x was same in sym (ap check_of read.1)

-- ---- one field

accepted : (o : FieldOutcome) → field_check o ≡ Ok tt → AcceptedField o
accepted (refused_field number section place) e = let z : ◌≡◌ {A = ℕ} 0 1 = cc in absurd (omega arith)
accepted (read_field one three four five) e = tt

accepted-five : (x : Five) → field_check (outcome_of x) ≡ Ok tt → AcceptedField (outcome_of x)
accepted-five x e = accepted (outcome_of x) e

refused-field : (o : FieldOutcome) (c : Cut) (x : Refusal) → field_check o ≡ Err x → refused_with x ≡ or_refused o c
unfolding or_refused
refused-field (refused_field number section place) c x e = ap refused_with (cc)
refused-field (read_field one three four five) c x e = let z : ◌≡◌ {A = ℕ} 0 1 = cc in absurd (omega arith)

-- of a field that is read, sections 1 and 3 were
pub opening-read : (m : List ℕ) (f : Sections) → field_check (outcome_of (shown_in m f)) ≡ Ok tt → OpeningRead m f
opening-read m f e =
    let follows = follows-five (shown_in m f) (accepted-five (shown_in m f) e) in
    record { one = λ h. (exactly₁ _).1 follows.identified; three = λ h. (exactly₃ _).1 follows.gridded }

-- ---- from field to field

-- the fields from the k-th on
abbrev pub shown_from : List ℕ → List Sections → ℕ → List Five
shown_from m fs k = map (shown_in m) (drop k fs)

pub all_read : (m : List ℕ) (fs : List Sections) (k : ℕ) → length fs ≤ k → shown_from m fs k ≡ []
all_read m fs k h = ap (map (shown_in m)) (drop_of_length-le fs {i = k} h)

one_left : (m : List ℕ) (fs : List Sections) (k : ℕ) (d : Sections) → k < length fs → shown_from m fs k ≡ shown_in m (get_or fs k d) ∷ shown_from m fs (k + 1)
one_left m fs k d l = rw (drop-cons fs k d l, add-one) refl

-- the k-th field is read, and then those behind it; or it is refused
module _ (m : List ℕ) (c : Cut) (fs : List Sections) (k : ℕ) (d : Sections) (l : k < length fs) where
  pub next-read : Ok tt ≡ field_check (outcome_of (shown_in m (get_or fs k d))) → fields_read c (shown_from m fs (k + 1)) ≡ fields_read c (shown_from m fs k)
  unfolding fields_read
  next-read e =
      sym (taken-on _ (fields_read c (shown_from m fs (k + 1))) (accepted-five _ (sym e))) ∙ sym (ap (fields_read c) (one_left m fs k d l))

  pub next-refused : (x : Refusal) → Err x ≡ field_check (outcome_of (shown_in m (get_or fs k d))) → refused_with x ≡ fields_read c (shown_from m fs k)
  unfolding fields_read
  next-refused x e =
      refused-field _ (fields_read c (shown_from m fs (k + 1))) x (sym e) ∙ sym (ap (fields_read c) (one_left m fs k d l))
