-- A field is accepted exactly when its five sections are one: each section's own theorem, one after the other.
-- Assumes nothing.
use Prim.Native.Nat.{ℕ}
use mathlib.Core.Path.{◌≡◌, refl, ◌∙◌}
use mathlib.Core.Logic.{◌↔◌}
use mathlib.Core.Bool.{not}
use mathlib.Core.List.{List, [], ◌∷◌}
use lib.Dec.{eqb}
use Rattle.layout.specs.Fields.{Value}
use Rattle.layout.specs.Outcomes.{Outcome, refused, read, Reason, reason}
use Rattle.layout.proofs.Outcomes.{NoneHold, read_none, none_last}
use Rattle.layout.proofs.Ranges.{test-same, same_test}
use Rattle.identification.proofs.AcceptedExactlyWhen.{accepted-exactly-when as exactly₁}
use Rattle.grid.proofs.AcceptedExactlyWhen.{accepted-exactly-when as exactly₃}
use Rattle.product.proofs.AcceptedExactlyWhen.{accepted-exactly-when as exactly₄}
use Rattle.packing.proofs.AcceptedExactlyWhen.{accepted-exactly-when₅, accepted-exactly-when₇}
use Rattle.packing.specs.Section5.{values_at, bits_at}
use Rattle.packing.specs.Section7.{outcome₇}
use Rattle.field.specs.Field.{FieldOutcome, onward, packed_outcome, points_at, field_outcome}
use Rattle.field.specs.Accepted.{FollowsField, AcceptedField}

-- a section on the way to a field that is accepted was read, and so was the rest
onward-read : (o : Outcome) (next : List Value → FieldOutcome) → AcceptedField (onward o next) → (vs : List Value) × (o ≡ read vs) × AcceptedField (next vs)
unfolding onward
onward-read (refused number section place) next a = absurd a
onward-read (read vs) next a = (vs, refl, a)

read-onward : (o : Outcome) (next : List Value → FieldOutcome) (vs : List Value) → o ≡ read vs → AcceptedField (next vs) → AcceptedField (onward o next)
unfolding onward
read-onward o next vs e a = rw e a

module _ (s1 s3 s4 s5 s7 : List ℕ) where
  -- 14
  abbrev against : List Reason
  against = reason 14 (not (eqb (values_at s5) (points_at s3))) ∷ []

  follows : AcceptedField (field_outcome s1 s3 s4 s5 s7) → FollowsField s1 s3 s4 s5 s7
  unfolding field_outcome packed_outcome NoneHold
  follows a =
      let one = onward-read _ _ a in
      let three = onward-read _ _ one.2 in
      let four = onward-read _ _ three.2 in
      let five = onward-read _ _ four.2 in
      let seven = onward-read _ _ five.2 in
      let rest = read_none 5 against (outcome₇ (values_at s5) (bits_at s5) s7) seven.0 seven.1 in
      record {
        identified = (exactly₁ s1).0 (one.0, one.1);
        gridded = (exactly₃ s3).0 (three.0, three.1);
        described = (exactly₄ s4).0 (four.0, four.1);
        packed = (accepted-exactly-when₅ s5).0 (five.0, five.1);
        points = test-same _ _ rest.0.0;
        filled = (accepted-exactly-when₇ (values_at s5) (bits_at s5) s7).0 (seven.0, rest.1);
      }

  accepts : FollowsField s1 s3 s4 s5 s7 → AcceptedField (field_outcome s1 s3 s4 s5 s7)
  unfolding field_outcome packed_outcome NoneHold
  accepts f =
      let one = (exactly₁ s1).1 f.identified in
      let three = (exactly₃ s3).1 f.gridded in
      let four = (exactly₄ s4).1 f.described in
      let five = (accepted-exactly-when₅ s5).1 f.packed in
      let seven = (accepted-exactly-when₇ (values_at s5) (bits_at s5) s7).1 f.filled in
      let fits = none_last 5 against (outcome₇ (values_at s5) (bits_at s5) s7) (same_test _ _ f.points, tt) in
      read-onward _ _ one.0 one.1
      (read-onward _ _ three.0 three.1
      (read-onward _ _ four.0 four.1
      (read-onward _ _ five.0 five.1
      (read-onward _ _ seven.0 (fits ∙ seven.1) tt))))

  pub accepted-exactly-when : AcceptedField (field_outcome s1 s3 s4 s5 s7) ↔ FollowsField s1 s3 s4 s5 s7
  accepted-exactly-when = (follows, accepts)
