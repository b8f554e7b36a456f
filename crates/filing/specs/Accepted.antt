-- What it means that a field can be filed, in plain words.
-- Assumes nothing.
use Rattle.std.specs.Prelude.{ℕ, ◌<◌, ◌≡◌, List, Result, Ok, Err}
use Rattle.octets.specs.Octets.{be_at}
use Rattle.identification.specs.Accepted.{Follows₁}
use Rattle.identification.specs.declared.Template.{Template}
use Rattle.identification.specs.declared.Template.TheVariants.{None as no_template, Calendar, Offset, CalendarAndOffset}
use Rattle.field.specs.Accepted.{FollowsField}
use Rattle.layout.specs.declared.Refusal.{Refusal}
use Rattle.filing.specs.declared.Change.{Change}

-- the calendar of section 1 is absent or, at octet 24, 0 (Gregorian)
abbrev pub Gregorian : Template → List ℕ → Type 0
Gregorian no_template s1 = Unit {0}
Gregorian Calendar s1 = be_at s1 24 1 ≡ 0
Gregorian Offset s1 = Unit {0}
Gregorian CalendarAndOffset s1 = be_at s1 24 1 ≡ 0

-- there is such a slot, the five sections are a field, and the calendar is absent or 0
pub record FollowsFiling (slot : ℕ) (s1 s3 s4 s5 s7 : List ℕ) : Type 0 where
  pub there : slot < 64
  pub field : FollowsField s1 s3 s4 s5 s7
  pub gregorian : (template : Template) × Follows₁ template s1 × Gregorian template s1

-- the answer is no refusal
abbrev pub AcceptedFiling : Result Change Refusal → Type 0
AcceptedFiling (Ok change) = Unit {0}
AcceptedFiling (Err x) = ⊥
