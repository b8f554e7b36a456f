-- Section 1, as document 01 has it: its fields, its outcome, and what a program's record says.
-- Assumes nothing.
use Rattle.std.specs.Prelude.{ℕ, zero, suc, List, [], ◌∷◌, ◌++◌, cond, length, get_or, eqb, ℤ, pos, Option, Some, None, Result, Ok, Err}
use Rattle.octets.specs.Octets.{be_at, sign_of, real_year}
use Rattle.layout.specs.Fields.{Value, none, is, plain, whole_in, natural_in, Meaning, unsigned, signed, Field, held, not_ones, raw, signed_present, lacking, after, bad_place, values_of}
use Rattle.layout.specs.Outcomes.{Outcome, refused, read, refusal, reason, first_of, opening_reasons, template_reasons}
use Rattle.layout.specs.Time.{time, time_in}
use Rattle.layout.specs.declared.Refusal.{Refusal}
use Rattle.identification.specs.declared.Template.{Template}
use Rattle.identification.specs.declared.Template.TheVariants.{None as no_template, Calendar, Offset, CalendarAndOffset}
use Rattle.identification.specs.declared.Identification.{Identification}

-- ---- the fields

-- octets 1 to 12: length, number, centre, sub-centre, two table versions, significance
unfoldable pub origin : List Field
origin = raw 4 ∷ raw 1 ∷ raw 2 ∷ raw 2 ∷ raw 1 ∷ raw 1 ∷ raw 1 ∷ []

-- octets 13-14: the year, never missing; unsigned without an offset, signed with one
abbrev pub year_meaning : Template → Meaning
year_meaning no_template = unsigned
year_meaning Calendar = unsigned
year_meaning Offset = signed
year_meaning CalendarAndOffset = signed

abbrev pub year : Template → Field
year template = held 2 (not_ones 2) (year_meaning template)

-- octets 15 to 19 are the time; octets 20 and 21: status, type of data
unfoldable pub status_and_type : List Field
status_and_type = raw 1 ∷ raw 1 ∷ []

-- from octet 22 on: template number, calendar, offset
abbrev pub template_fields : Template → List Field
template_fields no_template = lacking ∷ lacking ∷ lacking ∷ []
template_fields Calendar = raw 2 ∷ raw 1 ∷ lacking ∷ []
template_fields Offset = raw 2 ∷ lacking ∷ signed_present 2 ∷ []
template_fields CalendarAndOffset = raw 2 ∷ raw 1 ∷ signed_present 2 ∷ []

unfoldable pub fields₁ : Template → List Field
fields₁ template = origin ++ (year template ∷ (time ++ (status_and_type ++ template_fields template)))

abbrev pub total : Template → ℕ
total no_template = 21
total Calendar = 24
total Offset = 25
total CalendarAndOffset = 26

-- ---- what is read out: every field, and the real year

unfoldable pub real_year_at : Template → List ℕ → ℤ
real_year_at no_template s = pos (be_at s 13 2)
real_year_at Calendar s = pos (be_at s 13 2)
real_year_at Offset s = real_year (sign_of 2 (be_at s 13 2)) (sign_of 2 (be_at s 24 2))
real_year_at CalendarAndOffset s = real_year (sign_of 2 (be_at s 13 2)) (sign_of 2 (be_at s 25 2))

unfoldable pub values₁ : Template → List ℕ → List Value
values₁ template s = values_of (after 0 (fields₁ template)) s ++ (is (real_year_at template s) ∷ [])

-- ---- which of the values is which, counted from 0: the first seven are of octets 1 to 12, and then comes the year

abbrev pub value_at : List Value → ℕ → Value
value_at one k = get_or one k none

abbrev pub month_of : List Value → ℕ
month_of one = natural_in (value_at one 8)

abbrev pub day_of : List Value → ℕ
day_of one = natural_in (value_at one 9)

abbrev pub hour_of : List Value → ℕ
hour_of one = natural_in (value_at one 10)

abbrev pub minute_of : List Value → ℕ
minute_of one = natural_in (value_at one 11)

abbrev pub second_of : List Value → ℕ
second_of one = natural_in (value_at one 12)

-- behind status, type of data and template number
abbrev pub calendar_of : List Value → Value
calendar_of one = value_at one 16

-- behind the offset, the last
abbrev pub real_year_of : List Value → ℤ
real_year_of one = whole_in (value_at one 18)

-- ---- the outcome

-- 7, 8 and the total's 21, once the template is known; 7 leaves nothing to 11
unfoldable pub as_template : Template → List ℕ → Outcome
as_template template s =
    first_of 1 (template_reasons (total template) (bad_place (after 0 (fields₁ template)) s) 0 (total template) s) (read (values₁ template s))

-- 1.0 has the calendar, 1.1 the offset, 1.2 both; any other number is not listed
unfoldable pub by_number : ℕ → List ℕ → Outcome
by_number zero s = as_template Calendar s
by_number (suc zero) s = as_template Offset s
by_number (suc (suc zero)) s = as_template CalendarAndOffset s
by_number (suc (suc (suc n))) s = refused 6 1 0

-- length 21 has no template; otherwise octets 22-23 are its number
unfoldable pub by_template : List ℕ → Outcome
by_template s = cond (eqb (length s) 21) (as_template no_template s) (by_number (be_at s 22 2) s)

-- 5: under 21 octets, or 22
unfoldable pub outcome₁ : List ℕ → Outcome
outcome₁ s = first_of 1 (opening_reasons 1 21 s) (first_of 1 (reason 5 (eqb (length s) 22) ∷ []) (by_template s))

-- ---- what a program says of the template, and of a record

-- the template that octets 22-23 are the number of, or 6
unfoldable pub listed_template : ℕ → Result Template Refusal
listed_template zero = Ok Calendar
listed_template (suc zero) = Ok Offset
listed_template (suc (suc zero)) = Ok CalendarAndOffset
listed_template (suc (suc (suc n))) = Err (refusal 6 1 0)

-- of a section; 22 octets have one of these two only, which is 5, and 21 octets have no template
unfoldable pub template_of : List ℕ → Result Template Refusal
template_of s =
    cond (eqb (length s) 22) (Err (refusal 5 1 0)) (cond (eqb (length s) 21) (Ok no_template) (listed_template (be_at s 22 2)))

abbrev pub number_in : Option ℕ → Value
number_in None = none
number_in (Some n) = plain n

abbrev pub calendar_in : Option ℕ → Value
calendar_in None = none
calendar_in (Some n) = plain n

abbrev pub offset_in : Option ℤ → Value
offset_in None = none
offset_in (Some z) = is z

abbrev pub template_in : Option ℕ → Option ℕ → Option ℤ → ℤ → List Value
template_in number calendar offset real = number_in number ∷ calendar_in calendar ∷ offset_in offset ∷ is real ∷ []

unfoldable pub values_in : Identification → List Value
values_in x =
    plain x.length
    ∷ plain x.number
    ∷ plain x.centre
    ∷ plain x.sub_centre
    ∷ plain x.master_version
    ∷ plain x.local_version
    ∷ plain x.significance
    ∷ is x.year
    ∷ (time_in x.time
    ++ (plain x.status
    ∷ plain x.data_type
    ∷ template_in x.template x.calendar x.offset x.real_year))
