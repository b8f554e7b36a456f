-- 13: the points are Ni x Nj, or, with bit 8 of the scanning mode, octets 7-10 as they stand, or the sum of the list.
-- Assumes nothing.
use Rattle.std.specs.Prelude.{ℕ, zero, suc, ◌+◌, ◌*◌, ◌%◌, List, [], ◌∷◌, not, cond, eqb}
use Rattle.octets.specs.Octets.{be_at}
use Rattle.layout.specs.Outcomes.{Reason, reason}
use Rattle.grid.specs.Templates.{base_end, list_width, ni, nj, list_count}
use Rattle.grid.specs.declared.templates.Template.{Template}

-- the sum of the first `n` numbers of the list behind octet `end`, each of `width` octets
unfoldable pub sum_of : ℕ → ℕ → List ℕ → ℕ → ℕ
sum_of end width s zero = 0
sum_of end width s (suc n) = sum_of end width s n + be_at s (end + 1 + width * n) width

-- without a list: octets 7-10 themselves where bit 8 of the scanning mode (octet 72), the lowest, is set, else Ni x Nj
unfoldable pub points_without_list : List ℕ → ℕ
points_without_list s = cond (eqb (be_at s 72 1 % 2) 1) (be_at s 7 4) (ni s * nj s)

-- the points without a list, or the sum of the list
unfoldable pub points_of : Template → List ℕ → ℕ
points_of template s = cond (eqb (list_width s) 0) (points_without_list s) (sum_of (base_end template) (list_width s) s (list_count s))

abbrev pub points_reasons : Template → List ℕ → List Reason
points_reasons template s = reason 13 (not (eqb (be_at s 7 4) (points_of template s))) ∷ []
