-- A record of a queue: slot, issue + 1, body length, body.
-- Assumes nothing.
use Rattle.std.specs.Prelude.{ℕ, ◌+◌, List, cond, ltb, length, drop, Option, Some, None}
use Rattle.cutting.specs.Numbers.{leading_number, with_number}
use Rattle.filing.specs.Filing.{issue_from}
use Rattle.queue.specs.declared.Head.{Head}

-- the body starts after so many octets; a record past the end is none
abbrev pub bodied : List ℕ → ℕ → ℕ → ℕ → ℕ → Option Head
bodied s slot stored start size =
    cond (ltb (length s) (start + size)) None
    (Some (record { slot = slot; issue = issue_from stored; start = start; end = start + size }))

-- the record at the start of these octets: three numbers, one after the other, and the body
unfoldable pub record_of : List ℕ → Option Head
record_of s =
    with_number (leading_number s) None
    (λ slot a. with_number (leading_number (drop a s)) None
    (λ stored b. with_number (leading_number (drop (a + b) s)) None
    (λ size c. bodied s slot stored (a + b + c) size)))
