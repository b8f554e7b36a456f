-- Document 01's starred examples of sections 5 and 7, and sections 5 that are short or long: what is answered of whole sections.
-- Assumes nothing.
use Rattle.std.specs.Prelude.{ℕ, ◌-◌, List, [], ◌∷◌, ◌++◌, map, replicate, ℤ, pos}
use Rattle.octets.specs.Octets.{digits}
use Rattle.layout.specs.Fields.{whole_in}
use Rattle.layout.specs.Examples.{Example, answered, refused_at, filled_up, put}
use Rattle.packing.specs.Section5.{outcome₅}
use Rattle.packing.specs.Section7.{outcome₇}
use Rattle.packing.specs.Unpacking.{unpack_outcome, row_after}

-- N = 14, 9 bits: a section 7 of 21 octets is read, with its length and number; one of 20 or 22 is refused with 15
abbrev pub section7 : ℕ → List ℕ
section7 octets = digits 4 octets ++ (7 ∷ replicate (octets - 5) 0)

abbrev pub fourteen : ℕ → List ℤ → Example
fourteen octets stated = record { made = answered (map whole_in) (outcome₇ 14 9 (section7 octets)); stated = stated }

-- octets 0C 44, 3 values of 5 bits: a row of 3 places is written with 1, 17, 2
abbrev pub three5 : List ℕ
three5 = digits 4 21 ++ (5 ∷ (digits 4 3 ++ (replicate 10 0 ++ (5 ∷ 0 ∷ []))))

abbrev pub three7 : List ℕ
three7 = digits 4 7 ++ (7 ∷ 0x0c ∷ 0x44 ∷ [])

abbrev pub starred_packing : List Example
starred_packing =
    fourteen 21 (pos 21 ∷ pos 7 ∷ [])
    ∷ fourteen 20 (pos 15 ∷ pos 7 ∷ pos 0 ∷ [])
    ∷ fourteen 22 (pos 15 ∷ pos 7 ∷ pos 0 ∷ [])
    ∷ record { made = answered (map whole_in) (unpack_outcome three5 three7 (replicate 3 0)); stated = pos 3 ∷ [] }
    ∷ record { made = map pos (row_after three5 three7 (replicate 3 0)); stated = pos 1 ∷ pos 17 ∷ pos 2 ∷ [] }
    ∷ []

-- ---- short or long

-- so many octets of a section 5, all else 0
abbrev pub section5 : ℕ → List ℕ
section5 octets = filled_up octets (5 ∷ [])

abbrev pub is_refused : ℕ → ℕ → List ℕ → Example
is_refused number place s = refused_at number 5 place (outcome₅ s)

-- its total is 21; with 40 bits it is 8, also where it is too long
abbrev pub short_or_long₅ : List Example
short_or_long₅ =
    is_refused 7 0 (section5 20)
    ∷ is_refused 21 22 (section5 22)
    ∷ is_refused 21 22 (section5 65536)
    ∷ is_refused 8 20 (put 20 40 (section5 22))
    ∷ []
