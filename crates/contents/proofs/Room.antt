-- The contents fit the buffer that they are written into, whatever the message: nothing of them is ever cut.
-- Assumes nothing.
use mathlib.Core.Path.{◌≡◌}
use mathlib.Core.Bool.{Bool, true, false, cond}
use mathlib.Core.List.{List}
use Prim.Native.Nat.{ℕ, ◌+◌, ◌*◌, ◌≤◌}
use native.Mathlib.Omega.{arith}
use lib.Dec.{eqb}
use lib.ListN.{length, length-append}
use Rattle.octets.specs.Octets.{be_at}
use Rattle.lent.specs.Written.{written, append, starts_with}
use Rattle.lent.proofs.Written.{append-whole}
use Rattle.layout.specs.Outcomes.{Outcome, refused, read}
use Rattle.identification.specs.Section1.{outcome₁}
use Rattle.message.specs.Grammar.{Five}
use Rattle.message.specs.Messages.{shown_in, field_of, read_message}
use Rattle.message.specs.declared.Sections.{Sections}
use Rattle.message.specs.Walk.{Cut}
use Rattle.message.proofs.RefusalNumbers.{few-fields}
use Rattle.text.specs.Text.{refused_text}
use Rattle.text.proofs.Decimal.{decimal-most}
use Rattle.text.proofs.Lengths.{time-most, refused-most, in-turn-most}
use Rattle.contents.specs.Contents.{time_read, numbers_text, places_text, field_line, line_of, field_lines, accepted_text, contents_of, contents}

-- ---- the line of a field

time-read : (o : Outcome) → length (time_read o) ≤ 127
unfolding time_read
time-read (refused number section place) = omega arith
time-read (read one) = time-most _ _ _ _ _ _

numbers-text : (s3 s4 s5 : List ℕ) → length (numbers_text s3 s4 s5) ≤ 84
unfolding numbers_text
numbers-text s3 s4 s5 =
    simp length-append
    (omega (arith, decimal-most (be_at s3 13 2), decimal-most (be_at s4 8 2), decimal-most (be_at s3 7 4), decimal-most (be_at s5 20 1)))

places-text : (f : Sections) → length (places_text f) ≤ 210
unfolding places_text
places-text f =
    simp length-append
    (omega (arith, decimal-most (f.one.before + 1), decimal-most f.one.length, decimal-most (f.three.before + 1), decimal-most f.three.length, decimal-most (f.four.before + 1), decimal-most f.four.length, decimal-most (f.five.before + 1), decimal-most f.five.length, decimal-most (f.seven.before + 1), decimal-most f.seven.length))

field-line : (number : ℕ) (x : Five) (f : Sections) → length (field_line number x f) ≤ 442
unfolding field_line
field-line number x f =
    simp length-append
    (omega (arith, decimal-most number, time-read (outcome₁ x.one), numbers-text x.three x.four x.five, places-text f))

field-lines : (m : List ℕ) (c : Cut) → length (field_lines m c) ≤ 442 * c.count
field-lines m c = in-turn-most 442 (line_of m c) (λ k. field-line (k + 1) (shown_in m (field_of c k)) (field_of c k)) 0 c.count

-- ---- of a message, which has at most sixteen

contents-of : (m : List ℕ) (c : Cut) → c.count ≤ 16 → length (contents_of m c) ≤ 8192
unfolding contents_of accepted_text
contents-of m c few = by_number (eqb c.refusal.number 0)
  where
    by_number : (t : Bool) → length (cond t (accepted_text m c) (refused_text c.refusal)) ≤ 8192
    by_number true = simp length-append (omega (arith, field-lines m c, decimal-most c.count))
    by_number false = omega (arith, refused-most c.refusal)

pub contents-fit : (m : List ℕ) → length (contents m) ≤ 8192
unfolding contents
contents-fit m = contents-of m (read_message m) (few-fields m)

-- so what is left at the start of the buffer is the whole text
pub contents-whole : (m out : List ℕ) → length out ≡ 8192 → append (written out 0) (contents m) ≡ starts_with out (contents m)
contents-whole m out e = append-whole out (contents m) (omega (arith, contents-fit m))
