-- Document 01's starred years: a year, its offset, and the real year that is read of whole sections with them. And sections that are short or
-- long.
-- Assumes nothing.
use Rattle.std.specs.Prelude.{ℕ, ◌-◌, List, [], ◌∷◌, ◌++◌, replicate, ℤ, pos, neg_ℤ}
use Rattle.octets.specs.Octets.{digits}
use Rattle.layout.specs.Fields.{Value}
use Rattle.layout.specs.Examples.{Example, answered, refused_at, put}
use Rattle.identification.specs.Section1.{outcome₁, real_year_of}

-- octets 1 to 23: of so many octets, with a year, 1 January, a template number, and all else 0
abbrev pub example_front : ℕ → ℕ → ℕ → List ℕ
example_front octets year template =
    digits 4 octets ++ (1 ∷ (replicate 7 0 ++ (digits 2 year ++ (1 ∷ 1 ∷ (replicate 5 0 ++ digits 2 template)))))

-- 1.1 has the offset at 24-25, and 1.2 the calendar at 24 and the offset at 25-26
abbrev pub example11 : ℕ → ℕ → List ℕ
example11 year offset = example_front 25 year 1 ++ digits 2 offset

abbrev pub example12 : ℕ → ℕ → List ℕ
example12 year offset = example_front 26 year 2 ++ (0 ∷ digits 2 offset)

-- the real year, of the values that are read
abbrev pub real_year_read : List Value → List ℤ
real_year_read values = real_year_of values ∷ []

-- it is the same of both
abbrev pub real_year_is : ℕ → ℕ → ℤ → Example
real_year_is year offset real =
    record {
      made = answered real_year_read (outcome₁ (example11 year offset)) ++ answered real_year_read (outcome₁ (example12 year offset));
      stated = real ∷ real ∷ [];
    }

abbrev pub starred_years : List Example
starred_years =
    real_year_is 2024 0x8002 (neg_ℤ (pos 17976))
    ∷ real_year_is 0x8005 0x8001 (neg_ℤ (pos 10005))
    ∷ real_year_is 0 1 (pos 10000)
    ∷ []

-- ---- short or long

-- so many octets of template 1.0, from octet 24 on 0
abbrev pub example10 : ℕ → List ℕ
example10 octets = example_front octets 2024 0 ++ replicate (octets - 23) 0

abbrev pub is_refused : ℕ → ℕ → List ℕ → Example
is_refused number place s = refused_at number 1 place (outcome₁ s)

-- its total is 24; with month 0 it is 8, also where it is too long
abbrev pub short_or_long₁ : List Example
short_or_long₁ =
    is_refused 7 0 (example10 23)
    ∷ is_refused 21 25 (example10 25)
    ∷ is_refused 21 25 (example10 65536)
    ∷ is_refused 8 15 (put 15 0 (example10 25))
    ∷ []
