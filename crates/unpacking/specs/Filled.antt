-- What `unpack_bits`, `unpack_octets` and `unpack` leave of a lent row: the whole promise of each.
-- Assumes nothing.
use Rattle.std.specs.Prelude.{ℕ, List, cond, length, leb}
use Rattle.unpacking.specs.Packed.{unpacked}

-- a number of `bits` bits in each place; where they are more than 32, a place has no room for them, and the row stays
unfoldable pub filled : ℕ → List ℕ → List ℕ → List ℕ
filled bits xs row = cond (leb bits 32) (unpacked bits (length row) xs) row
