-- Document 01's starred grid: 3.0, Ni missing, Nj = 3, width 2, list 4, 6, 4 has 78 octets and 14 points. And grids that are short or long, and
-- grids with offset rows.
-- Assumes nothing.
use Rattle.std.specs.Prelude.{ℕ, List, [], ◌∷◌, ◌++◌, map, length, get_or, replicate, ℤ, pos}
use Rattle.octets.specs.Octets.{digits, all_ones}
use Rattle.layout.specs.Fields.{Value, none, whole_in}
use Rattle.layout.specs.Examples.{Example, answered, refused_at, filled_up, put}
use Rattle.grid.specs.Section3.{outcome₃}
use Rattle.grid.specs.Views.{list₃}
use Rattle.grid.specs.OffsetRows.{outcome_before}

-- octets 1 to 14: length, number, source, points, list width, list interpretation, template number
abbrev pub example_head : List ℕ
example_head = digits 4 78 ++ (3 ∷ 0 ∷ (digits 4 14 ++ (2 ∷ 1 ∷ digits 2 0)))

-- octets 15 to 30: a shape of the earth that needs no numbers
abbrev pub example_earth : List ℕ
example_earth = 6 ∷ digits 15 (all_ones 15)

-- octets 31 to 72: Ni, Nj, basic angle, subdivisions, La1, Lo1, component flags, La2, Lo2, Di, Dj, scanning mode
abbrev pub example_mesh : List ℕ
example_mesh =
    digits 4 (all_ones 4)
    ++ (digits 4 3
    ++ (digits 4 0
    ++ (digits 4 (all_ones 4)
    ++ (digits 4 60000000
    ++ (digits 4 0
    ++ (48 ∷ (digits 4 58000000 ++ (digits 4 5000000 ++ (digits 4 (all_ones 4) ++ (digits 4 1000000 ++ (0 ∷ [])))))))))))

abbrev pub example_list : List ℕ
example_list = digits 2 4 ++ (digits 2 6 ++ digits 2 4)

unfoldable pub example_section : List ℕ
example_section = example_head ++ (example_earth ++ (example_mesh ++ example_list))

-- the number of points, of the values that are read
abbrev pub points_read : List Value → List ℤ
points_read values = whole_in (get_or values 3 none) ∷ []

abbrev pub starred_grids : List Example
starred_grids =
    record { made = pos (length example_section) ∷ answered points_read (outcome₃ example_section); stated = pos 78 ∷ pos 14 ∷ [] }
    ∷ record {
      made = map pos (list₃ example_section);
      stated = pos 0 ∷ pos 4 ∷ pos 0 ∷ pos 6 ∷ pos 0 ∷ pos 4 ∷ [];
    }
    ∷ []

-- ---- short or long

-- so many octets of 3.0 with a list of so many zeros of one octet each, and so no points. Octets 5 to 12: number, source, points, list width, list
-- interpretation; 13 to 30: template and earth; 31 to 46: Ni, missing, Nj, basic angle, subdivisions; 47 to 63: 0; 64 to 67: Di, missing
abbrev pub with_list : ℕ → ℕ → List ℕ
with_list octets listed =
    filled_up octets
    (3 ∷ 0 ∷ (digits 4 0 ++ (1 ∷ 1 ∷ (replicate 18 0
    ++ (digits 4 (all_ones 4) ++ (digits 4 listed ++ (digits 4 0 ++ (digits 4 1 ++ (replicate 17 0 ++ digits 4 (all_ones 4))))))))))

abbrev pub is_refused : ℕ → ℕ → List ℕ → Example
is_refused number place s = refused_at number 3 place (outcome₃ s)

-- their totals are 72 and as many as are listed; with octet 12 of 0 it is 10, also where it is too long; with points it is 13, but 11 or 21 where it
-- is too short or too long
abbrev pub short_or_long₃ : List Example
short_or_long₃ =
    is_refused 7 0 (with_list 71 3)
    ∷ is_refused 11 75 (with_list 74 3)
    ∷ is_refused 21 76 (with_list 76 3)
    ∷ is_refused 11 65537 (with_list 65536 65465)
    ∷ is_refused 21 65536 (with_list 65536 65463)
    ∷ is_refused 10 0 (put 12 0 (with_list 76 3))
    ∷ is_refused 11 75 (put 10 1 (with_list 74 3))
    ∷ is_refused 13 0 (put 10 1 (with_list 75 3))
    ∷ is_refused 21 76 (put 10 1 (with_list 76 3))
    ∷ []

-- ---- offset rows

-- so many octets of this template without a list, with Ni = 4 and Nj = 3, so many points, and this scanning mode. Octets 5 to 14: number, source,
-- points, list width, list interpretation, template; 15 to 30: earth; 31 to 46: Ni, Nj, basic angle, subdivisions; 47 to 71: 0; 72: scanning mode;
-- behind it the poles
abbrev pub four_by_three : ℕ → ℕ → ℕ → ℕ → List ℕ
four_by_three octets template points mode =
    filled_up octets
    (3 ∷ 0 ∷ (digits 4 points ++ (0 ∷ 0 ∷ (digits 2 template ++ (replicate 16 0
    ++ (digits 4 4 ++ (digits 4 3 ++ (digits 4 0 ++ (digits 4 1 ++ (replicate 25 0 ++ (mode ∷ [])))))))))))

abbrev pub is_read : ℕ → List ℕ → Example
is_read points s = record { made = answered points_read (outcome₃ s); stated = pos points ∷ [] }

-- twelve points are Ni x Nj; the lowest bit, 1, lets others stand, in each template; the highest, 128, does not, nor do all others together; with a
-- list it is the sum all the same; and before the request the lowest bit made no difference
abbrev pub offset_rows₃ : List Example
offset_rows₃ =
    is_read 12 (four_by_three 72 0 12 0)
    ∷ is_refused 13 0 (four_by_three 72 0 13 0)
    ∷ is_read 13 (four_by_three 72 0 13 1)
    ∷ is_read 12 (four_by_three 72 0 12 1)
    ∷ is_read 11 (four_by_three 72 0 11 1)
    ∷ is_read 0 (four_by_three 72 0 0 1)
    ∷ is_read 13 (four_by_three 84 1 13 1)
    ∷ is_read 13 (four_by_three 84 2 13 1)
    ∷ is_read 13 (four_by_three 96 3 13 1)
    ∷ is_refused 13 0 (four_by_three 72 0 13 128)
    ∷ is_refused 13 0 (four_by_three 72 0 13 254)
    ∷ is_read 13 (four_by_three 72 0 13 255)
    ∷ is_read 14 (put 72 1 example_section)
    ∷ is_refused 13 0 (put 72 1 (put 10 13 example_section))
    ∷ refused_at 13 3 0 (outcome_before (four_by_three 72 0 13 1))
    ∷ []
