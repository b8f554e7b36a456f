-- The body of a record: the five sections back to back, cut by their own length octets; not exactly five sections of 5 or more octets is 20.
-- Assumes nothing.
use Rattle.std.specs.Prelude.{ℕ, List, cond, eqb, length, Option, Some, None}
use Rattle.cutting.specs.Sections.{end_after}
use Rattle.queue.specs.declared.Ends.{Ends}

-- the next section starts where this one ends, if it does
abbrev pub further : Option ℕ → (ℕ → Option Ends) → Option Ends
further None next = None
further (Some end) next = next end

unfoldable pub body_of : List ℕ → Option Ends
body_of s =
    further (end_after s 0)
    (λ one. further (end_after s one)
    (λ three. further (end_after s three)
    (λ four. further (end_after s four)
    (λ five. further (end_after s five)
    (λ seven. cond (eqb seven (length s)) (Some (record { one = one; three = three; four = four; five = five })) None)))))
