-- What the program `fields` prints of a message, octet by octet: a line for each of its fields, or that it is refused. Decimal, one space, a
-- minus sign before a negative year; each line ends in a line end.
-- Assumes nothing.
use Rattle.std.specs.Prelude.{ℕ, ◌+◌, List, [], ◌∷◌, ◌++◌, cond, eqb, length}
use Rattle.octets.specs.Octets.{be_at}
use Rattle.lent.specs.Rows.{in_turn}
use Rattle.layout.specs.Outcomes.{Outcome, refused, read}
use Rattle.layout.specs.declared.Span.{Span}
use Rattle.identification.specs.Section1.{outcome₁, real_year_at, real_year_of, month_of, day_of, hour_of, minute_of, second_of}
use Rattle.identification.specs.declared.Template.{Template}
use Rattle.message.specs.Grammar.{Five, Parts, fields_in}
use Rattle.message.specs.Messages.{shown_in, field_of, read_message}
use Rattle.message.specs.Places.{places_in}
use Rattle.message.specs.declared.Sections.{Sections}
use Rattle.message.specs.Walk.{Cut}
use Rattle.text.specs.Text.{ascii, spaced, ended, time_text, refused_text}

-- ---- the line of a field

-- the real reference time, by what is read of section 1; a refused one, which no accepted message has, says none
unfoldable pub time_read : Outcome → List ℕ
time_read (refused number section place) = []
time_read (read one) = time_text (real_year_of one) (month_of one) (day_of one) (hour_of one) (minute_of one) (second_of one)

-- the template numbers of sections 3 and 4, section 3's points and section 5's bits, by their octets
unfoldable pub numbers_text : List ℕ → List ℕ → List ℕ → List ℕ
numbers_text s3 s4 s5 = spaced (be_at s3 13 2) ++ (spaced (be_at s4 8 2) ++ (spaced (be_at s3 7 4) ++ spaced (be_at s5 20 1)))

-- where a section stands: its first octet in the message, from 1, and its length, with a space behind them or a line end
abbrev pub spaced_place : Span → List ℕ
spaced_place x = spaced (x.before + 1) ++ spaced x.length

abbrev pub ended_place : Span → List ℕ
ended_place x = spaced (x.before + 1) ++ ended x.length

unfoldable pub places_text : Sections → List ℕ
places_text f =
    spaced_place f.one ++ (spaced_place f.three ++ (spaced_place f.four ++ (spaced_place f.five ++ ended_place f.seven)))

-- the field's number, from 1, its time, its numbers, and where its sections stand
unfoldable pub field_line : ℕ → Five → Sections → List ℕ
field_line number x f =
    spaced number ++ (time_read (outcome₁ x.one) ++ (numbers_text x.three x.four x.five ++ places_text f))

-- ---- of a message

abbrev pub heading : List ℕ
heading =
    ascii "field year month day hour minute second grid product points bits first1 length1 first3 length3 first4 length4 first5 length5 first7 length7\n"

-- its k-th field, from 0, and all of them in turn
abbrev pub line_of : List ℕ → Cut → ℕ → List ℕ
line_of m c k = field_line (k + 1) (shown_in m (field_of c k)) (field_of c k)

abbrev pub field_lines : List ℕ → Cut → List ℕ
field_lines m c = in_turn (line_of m c) 0 c.count

unfoldable pub accepted_text : List ℕ → Cut → List ℕ
accepted_text m c = heading ++ (field_lines m c ++ (ascii "fields " ++ ended c.count))

-- the number 0 says that nothing refuses it
unfoldable pub contents_of : List ℕ → Cut → List ℕ
contents_of m c = cond (eqb c.refusal.number 0) (accepted_text m c) (refused_text c.refusal)

unfoldable pub contents : List ℕ → List ℕ
contents m = contents_of m (read_message m)

-- ---- the same by the parts of an accepted message and their octets

-- section 1's time, by its template
abbrev pub time_at : Template → List ℕ → List ℕ
time_at template s = time_text (real_year_at template s) (be_at s 15 1) (be_at s 16 1) (be_at s 17 1) (be_at s 18 1) (be_at s 19 1)

abbrev pub line_at : Template → ℕ → Five → Sections → List ℕ
line_at template number x f =
    spaced number ++ (time_at template x.one ++ (numbers_text x.three x.four x.five ++ places_text f))

-- the fields and their places, in order, behind so many others
unfoldable pub lines_at : Template → ℕ → List Five → List Sections → List ℕ
lines_at template others [] fs = []
lines_at template others (x ∷ xs) [] = []
lines_at template others (x ∷ xs) (f ∷ fs) = line_at template (others + 1) x f ++ lines_at template (others + 1) xs fs

abbrev pub contents_at : Template → Parts → List ℕ
contents_at template p = heading ++ (lines_at template 0 (fields_in p) (places_in p) ++ (ascii "fields " ++ ended (length p.groups)))
