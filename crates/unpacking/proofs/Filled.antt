-- What an engine leaves, for each width.
-- Assumes nothing.
use mathlib.Core.Path.{◌≡◌}
use mathlib.Core.List.{List}
use Prim.Native.Nat.{ℕ, ◌≤◌, ◌<◌}
use lib.ListN.{length}
use borrow.Author.Tests.{le-leb, lt-leb}
use Rattle.unpacking.specs.Packed.{unpacked}
use Rattle.unpacking.specs.Filled.{filled}

-- up to 32 bits: the numbers
pub narrow : (bits : ℕ) (xs row : List ℕ) → bits ≤ 32 → filled bits xs row ≡ unpacked bits (length row) xs
unfolding filled
narrow bits xs row h = rw (le-leb bits 32 h)

-- more: the row as it was
pub wide : (bits : ℕ) (xs row : List ℕ) → 32 < bits → filled bits xs row ≡ row
unfolding filled
wide bits xs row h = rw (lt-leb bits 32 h)
