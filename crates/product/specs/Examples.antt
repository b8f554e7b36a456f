-- Document 01's starred sections 4, and others that are short or long: what the outcome says of them.
-- Assumes nothing.
use Rattle.std.specs.Prelude.{ℕ, ◌-◌, List, [], ◌∷◌, ◌++◌, replicate}
use Rattle.octets.specs.Octets.{digits}
use Rattle.layout.specs.Examples.{Example, answered, refused_at, filled_up, put}
use Rattle.product.specs.Section4.{outcome₄}

-- a section of so many octets, with a template and NV, all else 0 but what is put at some octets, where octets count from 1
abbrev pub section4 : ℕ → ℕ → ℕ → List ℕ
section4 octets template nv = 0 ∷ 0 ∷ 0 ∷ octets ∷ 4 ∷ 0 ∷ nv ∷ 0 ∷ template ∷ replicate (octets - 9) 0

-- with n at octet p, and 1 January as the end of the interval
abbrev pub ending : ℕ → ℕ → List ℕ → List ℕ
ending p n s = put p n (put (p - 4) 1 (put (p - 5) 1 s))

abbrev pub is_read : List ℕ → Example
is_read s = record { made = answered (λ values. []) (outcome₄ s); stated = [] }

abbrev pub is_refused : ℕ → ℕ → List ℕ → Example
is_refused number place s = refused_at number 4 place (outcome₄ s)

abbrev pub starred_products : List Example
starred_products =
    is_read (ending 42 2 (section4 78 8 2))
    ∷ is_refused 11 78 (ending 42 2 (section4 77 8 2))
    ∷ is_refused 21 79 (ending 42 2 (section4 79 8 2))
    ∷ is_read (ending 45 1 (section4 61 11 0))
    ∷ is_refused 7 0 (ending 45 1 (section4 58 11 0))
    ∷ is_read (put 54 5 (ending 72 1 (section4 93 14 0)))
    ∷ []

-- as many octets as a section may have, with a template without time ranges and so many coordinate values
abbrev pub longest : ℕ → ℕ → List ℕ
longest template nv = filled_up 65536 (4 ∷ (digits 2 nv ++ digits 2 template))

-- 4.1 has 37 + 4 x 16,375 octets, 4.5 has 47 + 4 x 16,372, and 4.0 has 34; with n = 0 it is 9, be it too long or too short
abbrev pub short_or_long₄ : List Example
short_or_long₄ =
    is_refused 11 65537 (longest 1 16375)
    ∷ is_refused 21 65536 (longest 5 16372)
    ∷ is_refused 21 35 (longest 0 0)
    ∷ is_refused 9 0 (ending 42 0 (section4 60 8 0))
    ∷ is_refused 9 0 (ending 42 0 (section4 60 8 9))
    ∷ []
