-- What packed octets stand for: numbers of one width, one after the other, the most significant bit first.
-- Assumes nothing.
use Rattle.std.specs.Prelude.{ℕ, zero, suc, ◌+◌, ◌-◌, ◌*◌, ◌/◌, ◌%◌, ◌^◌, List, get_or}
use Rattle.lent.specs.Rows.{each_from}

-- bit k of the octets, where bit 0 is the most significant of the first
unfoldable pub bit_at : List ℕ → ℕ → ℕ
bit_at xs k = get_or xs (k / 8) 0 / 2 ^ (7 - k % 8) % 2

-- the number whose binary digits are the `width` bits from bit `from` on
unfoldable pub bits_from : List ℕ → ℕ → ℕ → ℕ
bits_from xs from zero = 0
bits_from xs from (suc width) = bits_from xs from width * 2 + bit_at xs (from + width)

-- number i of those that are `bits` wide
unfoldable pub packed_at : ℕ → List ℕ → ℕ → ℕ
packed_at bits xs i = bits_from xs (i * bits) bits

-- the first n numbers
unfoldable pub unpacked : ℕ → ℕ → List ℕ → List ℕ
unpacked bits n xs = each_from (packed_at bits xs) 0 n
