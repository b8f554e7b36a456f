-- What a caller is shown of a section: the octets of some of its fields, as they are.
-- Assumes nothing.
use Rattle.std.specs.Prelude.{ℕ, List, [], ◌∷◌, ◌++◌}
use Rattle.octets.specs.Octets.{part}
use Rattle.layout.specs.Fields.{Field, held, said, shown, width, FieldAt}

-- what is shown of a field's octets
abbrev pub shows : Field → List ℕ → List (List ℕ)
shows (held w a m) octets = []
shows (said v) octets = []
shows (shown w) octets = octets ∷ []

-- the octets that are shown, field by field
unfoldable pub shown_of : List FieldAt → List ℕ → List (List ℕ)
shown_of [] s = []
shown_of (p ∷ ps) s = shows p.field (part s p.at (width p.field)) ++ shown_of ps s
