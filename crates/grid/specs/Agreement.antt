-- 10: the width of the list, Ni, Nj, Di, Dj and octet 12 agree.
-- Assumes nothing.
use Rattle.std.specs.Prelude.{ℕ, List, Bool, not, cond, ◌&&◌, ◌||◌, eqb}
use Rattle.octets.specs.Octets.{be_at}
use Rattle.layout.specs.Fields.{between}
use Rattle.grid.specs.Blocks.{has_list}
use Rattle.grid.specs.Templates.{list_width, interpretation, ni, nj, is_missing}

-- the count at octet `absent` is missing and its increment too, and the count at octet `counted` is not
unfoldable pub missing_with : ℕ → ℕ → ℕ → List ℕ → Bool
missing_with absent increment counted s =
    is_missing (be_at s absent 4) && (is_missing (be_at s increment 4) && not (is_missing (be_at s counted 4)))

-- octet 12 is 0, Ni and Nj are both present
unfoldable pub agreed_without_list : List ℕ → Bool
agreed_without_list s = eqb (interpretation s) 0 && (not (is_missing (ni s)) && not (is_missing (nj s)))

-- octet 12 is 1 or 2; Ni is missing with Di and Nj is not, or Nj is missing with Dj and Ni is not
unfoldable pub agreed_with_list : List ℕ → Bool
agreed_with_list s = between 1 2 (interpretation s) && (missing_with 31 64 35 s || missing_with 35 68 31 s)

-- width 0 without a list, or 1, 2 or 4 with one
unfoldable pub agreed : List ℕ → Bool
agreed s = cond (eqb (list_width s) 0) (agreed_without_list s) (has_list (list_width s) && agreed_with_list s)

-- 10 where they do not agree, and else 0
abbrev pub disagreement : List ℕ → ℕ
disagreement s = cond (not (agreed s)) 10 0
