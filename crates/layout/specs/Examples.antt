-- Worked examples, in one form for every kind, so that those which document 01 stars can stand in one list, and others in another.
-- Assumes nothing.
use Rattle.std.specs.Prelude.{ℕ, ◌-◌, ◌≡◌, List, [], ◌∷◌, ◌++◌, ℤ, pos, length, set, replicate}
use Rattle.octets.specs.Octets.{digits}
use Rattle.layout.specs.Fields.{Value}
use Rattle.layout.specs.Outcomes.{Outcome, refused, read}

-- what the definitions make of an example, and what is stated of it
pub record Example : Type 0 where
  pub made : List ℤ
  pub stated : List ℤ

-- what is answered of a section: a refusal's number, section and place, or what the example has of the values that are read
abbrev pub answered : (List Value → List ℤ) → Outcome → List ℤ
answered told (refused number section place) = pos number ∷ pos section ∷ pos place ∷ []
answered told (read values) = told values

-- a section that is refused with this number, section and place
abbrev pub refused_at : ℕ → ℕ → ℕ → Outcome → Example
refused_at number section place o = record { made = answered (λ values. []) o; stated = pos number ∷ pos section ∷ pos place ∷ [] }

-- so many octets: octets 1-4 say how many, these follow, and then zeros
abbrev pub filled_up : ℕ → List ℕ → List ℕ
filled_up octets some = digits 4 octets ++ (some ++ replicate (octets - 4 - length some) 0)

-- another octet at this place, counted from 1
abbrev pub put : ℕ → ℕ → List ℕ → List ℕ
put at x s = set s (at - 1) x

unfoldable pub AllAgree : List Example → Type 0
AllAgree [] = Unit {0}
AllAgree (e ∷ es) = (e.made ≡ e.stated) × AllAgree es
