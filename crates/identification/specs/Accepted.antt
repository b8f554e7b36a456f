-- What it means that a section 1 follows its template and keeps the value rules, in plain words.
-- Assumes nothing.
use Rattle.std.specs.Prelude.{ℕ, ◌≤◌, ◌≡◌, List, [], ◌∷◌, ◌++◌, length}
use Rattle.octets.specs.Octets.{be_at}
use Rattle.layout.specs.Fields.{Run, run}
use Rattle.identification.specs.Section1.{total}
use Rattle.identification.specs.declared.Template.{Template}
use Rattle.identification.specs.declared.Template.TheVariants.{None as no_template, Calendar, Offset, CalendarAndOffset}

-- the octets of each field by their numbers, in every section 1: length, section number; centre, sub-centre; versions of the master and the
-- local tables; significance; year; month, day, hour, minute, second; status; type of data
abbrev pub octets_to21 : List Run
octets_to21 =
    run 1 4
    ∷ run 5 1
    ∷ run 6 2
    ∷ run 8 2
    ∷ run 10 1
    ∷ run 11 1
    ∷ run 12 1
    ∷ run 13 2
    ∷ run 15 1
    ∷ run 16 1
    ∷ run 17 1
    ∷ run 18 1
    ∷ run 19 1
    ∷ run 20 1
    ∷ run 21 1
    ∷ []

-- and behind them those of the template: its number at 22-23, and the calendar at 24, the offset at 24-25, or the calendar at 24 and the
-- offset at 25-26
abbrev pub octets_from22 : Template → List Run
octets_from22 no_template = []
octets_from22 Calendar = run 22 2 ∷ run 24 1 ∷ []
octets_from22 Offset = run 22 2 ∷ run 24 2 ∷ []
octets_from22 CalendarAndOffset = run 22 2 ∷ run 24 1 ∷ run 25 2 ∷ []

abbrev pub octets₁ : Template → List Run
octets₁ template = octets_to21 ++ octets_from22 template

-- octets 22-23 name the template
abbrev pub Names : Template → List ℕ → Type 0
Names no_template s = Unit {0}
Names Calendar s = be_at s 22 2 ≡ 0
Names Offset s = be_at s 22 2 ≡ 1
Names CalendarAndOffset s = be_at s 22 2 ≡ 2

-- the template by which a section is read, accepted or not: none if it has 21 octets, and otherwise the one that octets 22-23 name
abbrev pub ReadBy : Template → List ℕ → Type 0
ReadBy no_template s = length s ≡ 21
ReadBy Calendar s = (length s ≡ 21 → ⊥) × Names Calendar s
ReadBy Offset s = (length s ≡ 21 → ⊥) × Names Offset s
ReadBy CalendarAndOffset s = (length s ≡ 21 → ⊥) × Names CalendarAndOffset s

-- the offset, where there is one, is not missing
abbrev pub OffsetPresent : Template → List ℕ → Type 0
OffsetPresent no_template s = Unit {0}
OffsetPresent Calendar s = Unit {0}
OffsetPresent Offset s = be_at s 24 2 ≡ 0xffff → ⊥
OffsetPresent CalendarAndOffset s = be_at s 25 2 ≡ 0xffff → ⊥

pub record Follows₁ (template : Template) (s : List ℕ) : Type 0 where
  pub whole : length s ≡ total template
  pub says-length : be_at s 1 4 ≡ length s
  pub says-number : be_at s 5 1 ≡ 1
  pub names : Names template s
  pub year : be_at s 13 2 ≡ 0xffff → ⊥
  pub month : (1 ≤ be_at s 15 1) × (be_at s 15 1 ≤ 12)
  pub day : (1 ≤ be_at s 16 1) × (be_at s 16 1 ≤ 31)
  pub hour : be_at s 17 1 ≤ 23
  pub minute : be_at s 18 1 ≤ 59
  pub second : be_at s 19 1 ≤ 59
  pub offset : OffsetPresent template s
