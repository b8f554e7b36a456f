-- A row that gets its numbers one place after the other.
-- Assumes nothing.
use mathlib.Core.Path.{◌≡◌, ◌∙◌, ap}
use mathlib.Core.List.{List}
use Prim.Native.Nat.{ℕ, ◌+◌, ◌*◌, ◌<◌}
use lib.ListN.{length, set}
use Rattle.lent.proofs.Rows.{all-filled, filled-set}
use Rattle.unpacking.specs.Packed.{bits_from, packed_at, unpacked}
use Rattle.unpacking.specs.Standing.{First}
use Rattle.unpacking.proofs.Filled.{narrow, wide}

-- one more place
pub one_more : (bits : ℕ) (xs row : List ℕ) (i value from : ℕ) → First bits xs row i → i < length row → value ≡ bits_from xs from bits → from ≡ i * bits → First bits xs (set row i value) (i + 1)
unfolding packed_at
one_more bits xs row i value from first l v e = filled-set 0 (packed_at bits xs) row i value l (v ∙ ap (λ (k : ℕ). bits_from xs k bits) e) first

-- a row whose every place has its number is the whole
pub all_places : (bits : ℕ) (xs row : List ℕ) (i n : ℕ) → First bits xs row i → i ≡ length row → length row ≡ n → row ≡ unpacked bits n xs
unfolding unpacked
all_places bits xs row i n first e l = all-filled 0 (packed_at bits xs) row i n first e l

-- what an engine's loop over the places stands on
pub ruleset places = (one_more, all_places, narrow, wide)
