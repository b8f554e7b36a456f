-- Where a part of a section stands, and those very octets of the section, which a caller is shown.
-- Assumes nothing.
use Rattle.std.specs.Prelude.{ℕ, ◌+◌, ◌≤◌, List, cond, eqb, length, take, drop}
use Rattle.layout.specs.declared.Span.{Span}

-- an empty part
abbrev pub nowhere : Span
nowhere = record { before = 0; length = 0 }

-- so many octets behind octet `before`
abbrev pub span_after : ℕ → ℕ → Span
span_after before octets = cond (eqb octets 0) nowhere (record { before = before; length = octets })

-- the octets that stand there
abbrev pub octets_in : Span → List ℕ → List ℕ
octets_in x s = take x.length (drop x.before s)

-- all of them are octets of the section
abbrev pub Within : Span → List ℕ → Type 0
Within x s = x.before + x.length ≤ length s
