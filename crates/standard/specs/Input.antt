-- What may be read from standard input, and what a program makes of it.
-- Assumes nothing.
use Rattle.std.specs.Prelude.{◌≡◌, List, ℕ, Result, Ok, Err, take}
use Rattle.std.specs.declared.io.Error.{Error}
use Rattle.io.specs.Counts.{IsPrefixLen}

-- no more octets were read than the buffer has; which ones they are, and what a read that failed left there, is the system's
abbrev pub Holds : Result ℕ Error → List ℕ → Type 0
Holds (Ok n) buffer = IsPrefixLen n buffer
Holds (Err why) buffer = Unit

-- the text is that of the octets that were read: so many, at the start of the buffer
abbrev pub IsOfRead : (List ℕ → List ℕ) → ℕ → List ℕ → List ℕ → Type 0
IsOfRead text_of n buffer text = IsPrefixLen n buffer × (text ≡ text_of (take n buffer))
