-- A message is accepted exactly when it follows the Manual, and then its answer says where its fields stand.
-- Assumes nothing.
use Prim.Native.Nat.{ℕ, suc, ◌-◌, ◌≤◌}
use native.Mathlib.Omega.{arith}
use mathlib.Core.Path.{◌≡◌, refl, ap, sym, subst, ◌∙◌}
use mathlib.Core.Logic.{◌↔◌}
use mathlib.Core.List.{List, [], ◌∷◌, ◌++◌, append-nil, map}
use lib.ListN.{length, take, replicate}
use lib.Seq.{take-append_seam}
use Rattle.layout.specs.declared.Span.{Span}
use Rattle.field.specs.Field.{FieldOutcome, refused_field, read_field}
use Rattle.field.specs.Accepted.{AcceptedField}
use Rattle.field.proofs.AcceptedExactlyWhen.{accepted-exactly-when as field-exactly-when}
use Rattle.message.specs.declared.Sections.{Sections}
use Rattle.message.specs.Walk.{Cut}
use Rattle.message.specs.Walk.{no_sections}
use Rattle.message.specs.Grammar.{Group, FirstComplete, Five, Follows, AllFollow, fields_in, Parts, IsFrame, FollowsMessage}
use Rattle.message.specs.Messages.{shown_in, outcome_of, or_refused, found_in, fields_read, cut_message, read_message, Accepted}
use Rattle.message.specs.Places.{places_of, places_in, padded, fields_found}
use Rattle.message.proofs.Frames.{frame-of, frame_found}
use Rattle.message.proofs.Shown.{frame-shown}

-- ---- a field

both : (o : FieldOutcome) (c : Cut) → Accepted (or_refused o c) → AcceptedField o × Accepted c
unfolding or_refused
both (refused_field number section place) c a = absurd (omega arith)
both (read_field one three four five) c a = (tt, a)

pub taken-on : (o : FieldOutcome) (c : Cut) → AcceptedField o → or_refused o c ≡ c
unfolding or_refused
taken-on (refused_field number section place) c a = absurd a
taken-on (read_field one three four five) c a = refl

pub follows-five : (x : Five) → AcceptedField (outcome_of x) → Follows x
unfolding outcome_of
follows-five x a = (field-exactly-when x.one x.three x.four x.five x.seven).0 a

accepts-five : (x : Five) → Follows x → AcceptedField (outcome_of x)
unfolding outcome_of
accepts-five x f = (field-exactly-when x.one x.three x.four x.five x.seven).1 f

-- ---- the fields

all-follow : (xs : List Five) (c : Cut) → Accepted (fields_read c xs) → AllFollow xs × Accepted c
unfolding fields_read AllFollow
all-follow [] c a = (tt, a)
all-follow (x ∷ xs) c a =
    let p = both (outcome_of x) (fields_read c xs) a in
    let r = all-follow xs c p.1 in
    ((follows-five x p.0, r.0), r.1)

-- fields that follow are passed over
pub all_read : (xs ys : List Five) (c : Cut) → AllFollow xs → fields_read c (xs ++ ys) ≡ fields_read c ys
unfolding fields_read AllFollow
all_read [] ys c a = refl
all_read (x ∷ xs) ys c a = taken-on (outcome_of x) (fields_read c (xs ++ ys)) (accepts-five x a.0) ∙ all_read xs ys c a.1

-- ---- the message

-- the fields of an answer are the first of its sixteen places
found_first : (fs : List Sections) → take (length fs) (padded fs) ≡ fs
unfolding padded
found_first fs = take-append_seam fs (replicate (16 - length fs) no_sections)

-- a message with this frame is read as its fields are
pub frame-read : (m : List ℕ) (p : Parts) → IsFrame m p → read_message m ≡ fields_read (fields_found (places_in p)) (fields_in p)
unfolding read_message
frame-read m p f =
    ap (λ (c : Cut). fields_read c (found_in m c)) (frame_found m p f)
    ∙ ap (fields_read (fields_found (places_in p))) (ap (map (shown_in m)) (found_first (places_in p)) ∙ frame-shown m p f)

follows : (m : List ℕ) → Accepted (read_message m) → FollowsMessage m
unfolding read_message
follows m a =
    let f = frame-of m (all-follow (found_in m (cut_message m)) (cut_message m) a).1 in
    let read = all-follow (fields_in f.0) (fields_found (places_in f.0)) (subst Accepted (frame-read m f.0 f.1) a) in
    record { parts = f.0; frame = f.1; fields = read.0 }

pub answer : (m : List ℕ) (x : FollowsMessage m) → read_message m ≡ fields_found (places_in x.parts)
unfolding fields_read
answer m x =
    let fs = fields_in x.parts in
    let c = fields_found (places_in x.parts) in
    frame-read m x.parts x.frame ∙ ap (fields_read c) (sym (append-nil fs)) ∙ all_read fs [] c x.fields

-- one field for each group
pub as_many : (gs : List Group) (at : ℕ) (one three : Span) → length (places_of at one three gs) ≡ length gs
unfolding places_of
as_many [] at one three = refl
as_many (g ∷ gs) at one three = ap suc (as_many gs _ one _)

pub some-group : (gs : List Group) → FirstComplete gs → 1 ≤ length gs
some-group [] f = absurd f
some-group (g ∷ gs) f = omega arith

pub count-is : (m : List ℕ) (x : FollowsMessage m) → (read_message m).count ≡ length x.parts.groups
count-is m x = ap (λ (c : Cut). c.count) (answer m x) ∙ as_many x.parts.groups _ _ _

accepts : (m : List ℕ) → FollowsMessage m → Accepted (read_message m)
accepts m x = omega (arith, count-is m x, some-group x.parts.groups x.frame.first)

pub accepted-exactly-when : (m : List ℕ) → Accepted (read_message m) ↔ FollowsMessage m
accepted-exactly-when m = (follows m, accepts m)
