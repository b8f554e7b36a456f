-- An outcome is that of an accepted section.
-- Assumes nothing.
use Rattle.layout.specs.Outcomes.{Outcome, refused, read}

abbrev pub Accepted : Outcome → Type 0
Accepted (refused number section place) = ⊥
Accepted (read vs) = Unit {0}
