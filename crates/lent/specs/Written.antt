-- Octets written into a lent buffer from an index on, as far as there is room.
-- Assumes nothing.
use Rattle.std.specs.Prelude.{ℕ, ◌+◌, cond, List, [], ◌∷◌, ltb, length, set}
use Rattle.lent.specs.Lent.{over}

-- a lent buffer, and after how many of its octets those stand that are written so far
pub record Written : Type 0 where
  pub octets : List ℕ
  pub at : ℕ

abbrev pub written : List ℕ → ℕ → Written
written octets at = record { octets = octets; at = at }

-- one octet more, if there is room
unfoldable pub one : Written → ℕ → Written
one x c = cond (ltb x.at (length x.octets)) (written (set x.octets x.at c) (x.at + 1)) x

-- octet after octet, each if there is room
unfoldable pub append : Written → List ℕ → Written
append x [] = x
append x (c ∷ t) = append (one x c) t

-- octets at the start of a buffer that has room for them, and behind them what was there before
unfoldable pub starts_with : List ℕ → List ℕ → Written
starts_with out t = written (over out t) (length t)
