-- Reading a message: 2, 22, then 23 to 25 at the first place met, then the refusal of the first field refused.
-- Assumes nothing.
use Rattle.std.specs.Prelude.{ℕ, ◌+◌, ◌-◌, ◌≤◌, ◌<◌, ◌≡◌, List, [], ◌∷◌, map, Bool, not, cond, ◌&&◌, ltb, eqb, length, take, drop, get_or}
use Rattle.octets.specs.Octets.{be_at}
use Rattle.layout.specs.Fields.{Value}
use Rattle.layout.specs.Outcomes.{Outcome, read, and_then, Reason, reason, Check, first_refusal, refusal}
use Rattle.layout.specs.Spans.{nowhere, octets_in}
use Rattle.layout.specs.declared.Span.{Span}
use Rattle.cutting.specs.Cuts.{Cut as Pieces, cut_of}
use Rattle.cutting.specs.Sections.{section_step}
use Rattle.identification.specs.Section1.{outcome₁}
use Rattle.grid.specs.Section3.{outcome₃}
use Rattle.field.specs.Field.{FieldOutcome, refused_field, read_field, field_outcome}
use Rattle.message.specs.declared.Sections.{Sections}
use Rattle.message.specs.Walk.{Cut}
use Rattle.message.specs.Grammar.{Five}
use Rattle.message.specs.Walk.{no_sections, refused_with, unless_refused, start_walk, judged}

-- ---- the frame

-- 2, and 22: under 20 octets, no GRIB, another edition, another total length
abbrev pub start_reasons : List ℕ → List Reason
start_reasons m =
    reason 2 (ltb 65536 (length m))
    ∷ reason 22 (ltb (length m) 20)
    ∷ reason 22 (not (eqb (be_at m 1 4) 0x47524942))
    ∷ reason 22 (not (eqb (be_at m 8 1) 2))
    ∷ reason 22 (not (eqb (be_at m 9 8) (length m)))
    ∷ []

unfoldable pub start_refusal : List ℕ → Check
start_refusal m = first_refusal 0 (start_reasons m)

-- the last four octets are 7777
abbrev pub ends_right : List ℕ → Bool
ends_right m = eqb (be_at m (length m - 4 + 1) 4) 0x37373737

-- all of a message but its last four octets
abbrev pub body_of : List ℕ → List ℕ
body_of m = take (length m - 4) m

-- its sections from octet 17 on, cut by their own length octets
abbrev pub sections_in : List ℕ → Pieces (List ℕ)
sections_in m = cut_of section_step (drop 16 (body_of m))

unfoldable pub cut_message : List ℕ → Cut
cut_message m = unless_refused (start_refusal m) (judged (ends_right m) 16 start_walk (sections_in m))

-- ---- the fields

-- the sections that stand there
abbrev pub shown_in : List ℕ → Sections → Five
shown_in m f =
    record {
      one = octets_in f.one m;
      three = octets_in f.three m;
      four = octets_in f.four m;
      five = octets_in f.five m;
      seven = octets_in f.seven m;
    }

unfoldable pub outcome_of : Five → FieldOutcome
outcome_of x = field_outcome x.one x.three x.four x.five x.seven

unfoldable pub or_refused : FieldOutcome → Cut → Cut
or_refused (refused_field number section place) c = refused_with (refusal number section place)
or_refused (read_field one three four five) c = c

-- the first field that is refused refuses the message
unfoldable pub fields_read : Cut → List Five → Cut
fields_read c [] = c
fields_read c (x ∷ xs) = or_refused (outcome_of x) (fields_read c xs)

-- the fields that are found
abbrev pub found_in : List ℕ → Cut → List Five
found_in m c = map (shown_in m) (take c.count c.fields)

unfoldable pub read_message : List ℕ → Cut
read_message m = fields_read (cut_message m) (found_in m (cut_message m))

-- it is accepted where fields are found in it
abbrev pub Accepted : Cut → Type 0
Accepted c = 1 ≤ c.count

-- ---- what a caller is shown

-- the one of five things that a field has for the number of a section, and another thing for any other number
unfoldable pub numbered : {A : Type 0} → A → A → A → A → A → A → ℕ → A
numbered one three four five seven other n =
    cond (eqb n 1) one (cond (eqb n 3) three (cond (eqb n 4) four (cond (eqb n 5) five (cond (eqb n 7) seven other))))

-- where a section stands; 2, 6 and what is no section stand nowhere
abbrev pub span_of : Sections → ℕ → Span
span_of f n = numbered f.one f.three f.four f.five f.seven nowhere n

-- the k-th field, from 0; past the last there is none
abbrev pub field_of : Cut → ℕ → Sections
field_of c k = cond (ltb k c.count) (get_or c.fields k no_sections) no_sections

-- those very octets of the message
unfoldable pub section_in : List ℕ → Cut → ℕ → ℕ → List ℕ
section_in m c k n = octets_in (span_of (field_of c k) n) m

-- ---- for the code, which reads no section again that the field before has too

-- sections 1 and 3 of a field
abbrev pub opening_outcome : Five → Outcome
opening_outcome x = and_then (outcome₁ x.one) (outcome₃ x.three)

-- a section is the one that stands there: it has its place and its length; where that is nowhere, none is
unfoldable pub same_section : Span → Span → Bool
same_section before x =
    not (eqb before.length 0) && (eqb before.before x.before && eqb before.length x.length)

-- a section that stands there was read; one that stands nowhere need not be
abbrev pub WasRead : (List ℕ → Outcome) → List ℕ → Span → Type 0
WasRead outcome m x = 0 < x.length → (vs : List Value) × (outcome (octets_in x m) ≡ read vs)

-- sections 1 and 3 of a field were
pub record OpeningRead (m : List ℕ) (f : Sections) : Type 0 where
  pub one : WasRead outcome₁ m f.one
  pub three : WasRead outcome₃ m f.three
