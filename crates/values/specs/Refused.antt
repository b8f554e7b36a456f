-- With which of document 01's numbers `read_into` refuses.
-- Assumes nothing.
use Rattle.std.specs.Prelude.{ℕ, List, [], ◌∷◌, cond, eqb}
use Rattle.layout.specs.Refusals.{Row, row, head_numbers}
use Rattle.identification.specs.Refused.{numbers₁}
use Rattle.grid.specs.Refused.{numbers₃}
use Rattle.product.specs.Refused.{numbers₄}
use Rattle.packing.specs.Refused.{numbers₅}

-- the section's own, and 18 of no section
abbrev pub with_room : ℕ → List ℕ → List Row
with_room section numbers = row section numbers ∷ row 0 (18 ∷ []) ∷ []

-- section 7 alone knows 1 to 4 only; another section number is 4 at once, whatever room there is
abbrev pub read_table : ℕ → List Row
read_table section =
    cond (eqb section 1) (with_room 1 numbers₁)
    (cond (eqb section 3) (with_room 3 numbers₃)
    (cond (eqb section 4) (with_room 4 numbers₄)
    (cond (eqb section 5) (with_room 5 numbers₅)
    (cond (eqb section 7) (with_room 7 head_numbers)
    (row section (4 ∷ []) ∷ [])))))
