-- The month, day, hour, minute and second of a time: the same five fields in section 1 and at the end of an interval in section 4.
-- Assumes nothing.
use Rattle.std.specs.Prelude.{ℕ, ◌+◌, ◌≡◌, List, [], ◌∷◌}
use Rattle.octets.specs.Octets.{be_at}
use Rattle.layout.specs.Fields.{Value, Field, plain, ranged}
use Rattle.layout.specs.declared.Time.{Time}

unfoldable pub time : List Field
time = ranged 1 1 12 ∷ ranged 1 1 31 ∷ ranged 1 0 23 ∷ ranged 1 0 59 ∷ ranged 1 0 59 ∷ []

unfoldable pub time_in : Time → List Value
time_in t = plain t.month ∷ plain t.day ∷ plain t.hour ∷ plain t.minute ∷ plain t.second ∷ []

-- by name and octet: the month stands at octet `at`, and the others follow it
pub record MeansTime (t : Time) (at : ℕ) (s : List ℕ) : Type 0 where
  pub month : t.month ≡ be_at s at 1
  pub day : t.day ≡ be_at s (at + 1) 1
  pub hour : t.hour ≡ be_at s (at + 2) 1
  pub minute : t.minute ≡ be_at s (at + 3) 1
  pub second : t.second ≡ be_at s (at + 4) 1
