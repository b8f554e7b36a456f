-- The walk over a message's sections: what each is refused with, and what it leaves in force.
-- Assumes nothing.
use Rattle.std.specs.Prelude.{ℕ, ◌+◌, List, [], ◌∷◌, Bool, not, cond, ◌&&◌, ltb, eqb, length, set, replicate, Result, Ok, Err}
use Rattle.octets.specs.Octets.{be_at}
use Rattle.layout.specs.Fields.{between}
use Rattle.layout.specs.Outcomes.{Reason, reason, Check, first_refusal, refusal, no_refusal}
use Rattle.layout.specs.Spans.{nowhere}
use Rattle.layout.specs.declared.Span.{Span}
use Rattle.layout.specs.declared.Refusal.{Refusal}
use Rattle.cutting.specs.Cuts.{Cut as Pieces}
use Rattle.message.specs.declared.Sections.{Sections}
use Rattle.message.specs.declared.Fields.{Fields}

-- ---- refused, or not

-- what is read of a message: its refusal, and its fields, of which the first `count` are there
pub record Cut : Type 0 where
  pub refusal : Refusal
  pub count : ℕ
  pub fields : List Sections

abbrev pub no_sections : Sections
no_sections = record { one = nowhere; three = nowhere; four = nowhere; five = nowhere; seven = nowhere }

-- a refused message has no fields
abbrev pub refused_with : Refusal → Cut
refused_with x = record { refusal = x; count = 0; fields = replicate 16 no_sections }

-- what a check refuses has none either
abbrev pub unless_refused : Check → Cut → Cut
unless_refused (Err x) c = refused_with x
unless_refused (Ok u) c = c

-- what a program's answer says; where nothing refuses the message, the refusal is none
abbrev pub told : Result Fields Refusal → Cut
told (Err x) = refused_with x
told (Ok f) = record { refusal = no_refusal; count = f.count; fields = f.fields }

-- ---- one section

abbrev pub number_in : List ℕ → ℕ
number_in x = be_at x 5 1

-- after 7 comes 2, 3 or 4, after 1 comes 2 or 3, and else the next number; the first is 1
unfoldable pub may_follow : ℕ → ℕ → Bool
may_follow last next = cond (eqb last 7) (between 2 4 next) (cond (eqb last 1) (between 2 3 next) (eqb next (last + 1)))

-- a section 6 other than 6 octets with 255
unfoldable pub other_six : List ℕ → Bool
other_six x = eqb (number_in x) 6 && not (eqb (length x) 6 && eqb (be_at x 6 1) 255)

-- at a section that stands behind section `last` and behind so many fields: out of order, another section 6, after the 16th field
abbrev pub section_reasons : ℕ → ℕ → List ℕ → List Reason
section_reasons last count x =
    reason 23 (not (may_follow last (number_in x)))
    ∷ reason 24 (other_six x)
    ∷ reason 25 (ltb 15 count)
    ∷ []

unfoldable pub section_refusal : ℕ → ℕ → List ℕ → Check
section_refusal last count x = first_refusal 0 (section_reasons last count x)

-- at the last four octets, behind section `last`: a section is missing, or they are not 7777
abbrev pub end_reasons : ℕ → Bool → List Reason
end_reasons last right = reason 23 (not (eqb last 7)) ∷ reason 25 (not right) ∷ []

unfoldable pub end_refusal : ℕ → Bool → Check
end_refusal last right = first_refusal 0 (end_reasons last right)

-- ---- what is in force

-- a section stands there now; 2 and 6 are passed over
unfoldable pub in_force : Sections → ℕ → Span → Sections
in_force f n x =
    cond (eqb n 1) (record { one = x; three = f.three; four = f.four; five = f.five; seven = f.seven })
    (cond (eqb n 3) (record { one = f.one; three = x; four = f.four; five = f.five; seven = f.seven })
    (cond (eqb n 4) (record { one = f.one; three = f.three; four = x; five = f.five; seven = f.seven })
    (cond (eqb n 5) (record { one = f.one; three = f.three; four = f.four; five = x; seven = f.seven })
    (cond (eqb n 7) (record { one = f.one; three = f.three; four = f.four; five = f.five; seven = x }) f))))

-- ---- the walk

-- the number of the section before, where the sections in force stand, and the fields that are found
pub record Walk : Type 0 where
  pub last : ℕ
  pub force : Sections
  pub found : Cut

-- one field more
abbrev pub one_more : Cut → Sections → Cut
one_more c f = record { refusal = c.refusal; count = c.count + 1; fields = set c.fields c.count f }

-- a section of this number that stands there; a section 7 ends a field, which has the sections in force
unfoldable pub with_section : Walk → ℕ → Span → Walk
with_section w n x =
    record {
      last = n;
      force = in_force w.force n x;
      found = cond (eqb n 7) (one_more w.found (in_force w.force n x)) w.found;
    }

-- a section that stands after octet `at`
abbrev pub span_at : ℕ → List ℕ → Span
span_at at x = record { before = at; length = length x }

abbrev pub taken : ℕ → Walk → List ℕ → Walk
taken at w x = with_section w (number_in x) (span_at at x)

abbrev pub start_walk : Walk
start_walk = record { last = 0; force = no_sections; found = refused_with no_refusal }

-- from the section after octet `at` on: these sections, and whether they are all that is left before the last four octets; 23 where what is left is
-- no section of 5 octets or more
unfoldable pub judged_in : Bool → Bool → ℕ → Walk → List (List ℕ) → Cut
judged_in whole right at w [] = cond whole (unless_refused (end_refusal w.last right) w.found) (refused_with (refusal 23 0 0))
judged_in whole right at w (x ∷ xs) =
    unless_refused (section_refusal w.last w.found.count x) (judged_in whole right (at + length x) (taken at w x) xs)

-- sections as they are cut
abbrev pub judged : Bool → ℕ → Walk → Pieces (List ℕ) → Cut
judged right at w c = judged_in c.whole right at w c.items
