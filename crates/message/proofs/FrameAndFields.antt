-- The frame decides before the fields do: a message with a frame is accepted exactly when its fields follow, one of one group when its one field
-- does, and the first field refused refuses it.
-- Assumes nothing.
use Prim.Native.Nat.{ℕ}
use mathlib.Core.Path.{◌≡◌, ap, sym, subst, ◌∙◌}
use mathlib.Core.Logic.{◌↔◌}
use mathlib.Core.List.{List, [], ◌∷◌, ◌++◌, map}
use lib.ListN.{take}
use Rattle.layout.specs.Outcomes.{refusal}
use Rattle.field.specs.Accepted.{FollowsField}
use Rattle.field.specs.Field.{FieldOutcome, refused_field}
use Rattle.message.specs.Walk.{refused_with}
use Rattle.message.specs.Grammar.{Group, Five, fields_of, AllFollow, three_after, Parts, fields_in, IsFrame}
use Rattle.message.specs.Messages.{shown_in, cut_message, outcome_of, or_refused, fields_read, read_message, Accepted}
use Rattle.message.specs.Places.{places_in, fields_found}
use Rattle.message.proofs.AcceptedExactlyWhen.{all_read, frame-read, accepted-exactly-when}
use Rattle.message.proofs.Unambiguous.{unambiguous}

pub frame-and-fields : (m : List ℕ) (p : Parts) → IsFrame m p → Accepted (read_message m) ↔ AllFollow (fields_in p)
frame-and-fields m p f = (to, λ a. (accepted-exactly-when m).1 (record { parts = p; frame = f; fields = a }))
  where
    to : Accepted (read_message m) → AllFollow (fields_in p)
    to a =
        let x = (accepted-exactly-when m).0 a in
        subst (λ (q : Parts). AllFollow (fields_in q)) (unambiguous m x.parts p x.frame f) x.fields

pub one_field : (m : List ℕ) (p : Parts) (g : Group) → IsFrame m p → p.groups ≡ g ∷ [] → Accepted (read_message m) ↔ FollowsField p.one (three_after [] g.opening) g.four g.five g.seven
unfolding fields_of AllFollow
one_field m p g f e =
    let both = frame-and-fields m p f in
    let fields : fields_in p ≡ fields_of p.one [] (g ∷ []) = ap (fields_of p.one []) e in
    (λ a. (subst AllFollow fields (both.0 a)).0, λ x. both.1 (subst AllFollow (sym fields) (x, tt)))

-- a refusal of the frame comes before any field's
pub frame-first : (m : List ℕ) → (cut_message m).count ≡ 0 → read_message m ≡ cut_message m
unfolding read_message fields_read
frame-first m e = ap (λ (n : ℕ). fields_read (cut_message m) (map (shown_in m) (take n (cut_message m).fields))) e

-- where the frame is right, the first field refused refuses the message, with its number, section and place
pub first-field-refused : (m : List ℕ) (p : Parts) → IsFrame m p → (before : List Five) (x : Five) (behind : List Five) → fields_in p ≡ before ++ (x ∷ behind) → AllFollow before
    → (number section place : ℕ) → outcome_of x ≡ refused_field number section place → read_message m ≡ refused_with (refusal number section place)
unfolding fields_read or_refused
first-field-refused m p f before x behind e follow number section place refused =
    let c = fields_found (places_in p) in
    frame-read m p f
    ∙ ap (fields_read c) e
    ∙ all_read before (x ∷ behind) c follow
    ∙ ap (λ (o : FieldOutcome). or_refused o (fields_read c behind)) refused
