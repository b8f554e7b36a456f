-- Where a part of a section stands, as C is told it.
-- Assumes nothing.
use Rattle.std.specs.Prelude.{ℕ, ◌+◌, cond, List, [], ◌∷◌, eqb, leb, length}
use Rattle.lent.specs.Lent.{Done, over, if_room}
use Rattle.layout.specs.Spans.{nowhere}
use Rattle.layout.specs.declared.Span.{Span}
use Rattle.grid.specs.Views.{list_span}
use Rattle.product.specs.Views.{range_span, member_span, coordinate_span}
use Rattle.skogmund.specs.Entries.{no_room}

-- 1: the list of section 3; 2, 3 and 4: the k-th time range (from 0), the members and the coordinates of section 4; others are nowhere
unfoldable pub part_span : ℕ → List ℕ → ℕ → Span
part_span part s k =
    cond (eqb part 1) (list_span s)
    (cond (eqb part 2) (range_span s k)
    (cond (eqb part 3) (member_span s)
    (cond (eqb part 4) (coordinate_span s)
    nowhere)))

-- the first octet, where the section's first is octet 1; an empty part has none
abbrev pub first_octet : Span → ℕ
first_octet x = cond (eqb x.length 0) 0 (x.before + 1)

-- both numbers in the first two places
unfoldable pub part_told : ℕ → List ℕ → ℕ → List ℕ → Done ℕ (List ℕ)
part_told part s k places =
    let x = part_span part s k in
    if_room 0 no_room (leb 2 (length places)) (over places (first_octet x ∷ x.length ∷ [])) places
