-- What whole groups leave behind.
-- Assumes nothing.
use Rattle.std.specs.Prelude.{ℕ, ◌*◌, ◌≤◌, ◌≡◌, List, length}
use Rattle.unpacking.specs.Standing.{First}
use Rattle.unpacking.specs.declared.eights.Done.{Done}

-- so many places have their numbers, which are whole in so many octets
pub record Grouped (bits : ℕ) (xs row : List ℕ) (done : Done) : Type 0 where
  pub first : First bits xs row done.written
  pub within : done.written ≤ length row
  pub there : done.taken ≤ length xs
  pub whole : done.written * bits ≡ 8 * done.taken
