-- The octets of a section and the numbers that they stand for: big-endian, and sign and magnitude.
-- Assumes nothing.
use Rattle.std.specs.Prelude.{ℕ, zero, suc, ◌+◌, ◌-◌, ◌*◌, ◌^◌, ◌/◌, ◌%◌, ◌<◌, List, [], ◌∷◌, cond, length, get_or, ltb, ℤ, pos, neg_ℤ, ◌+ℤ◌, ◌*ℤ◌}

-- octet number `at` of a section, where the first is octet 1; one that is not there counts as 0
abbrev pub octet : List ℕ → ℕ → ℕ
octet s at = get_or (0 ∷ s) at 0

-- every element of a list is an octet, as every element of a lent slice is
abbrev pub AllOctets : List ℕ → Type 0
AllOctets xs = (i : ℕ) → get_or xs i 0 < 256

-- the `width` octets from octet `at` on
unfoldable pub part : List ℕ → ℕ → ℕ → List ℕ
part s at zero = []
part s at (suc width) = octet s at ∷ part s (suc at) width

-- the number that octets stand for, the first of them the most significant
unfoldable pub be : List ℕ → ℕ
be [] = 0
be (x ∷ xs) = x * 256 ^ length xs + be xs

-- the number in the `width` octets from octet `at` on
unfoldable pub be_at : List ℕ → ℕ → ℕ → ℕ
be_at s at width = be (part s at width)

-- the `width` octets that stand for a number
unfoldable pub digits : ℕ → ℕ → List ℕ
digits zero x = []
digits (suc width) x = x / 256 ^ width ∷ digits width (x % 256 ^ width)

-- the weight of the top bit of `width` octets
abbrev pub top_bit : ℕ → ℕ
top_bit width = 2 ^ (8 * width - 1)

-- all bits of `width` octets are one
abbrev pub all_ones : ℕ → ℕ
all_ones width = 2 ^ (8 * width) - 1

-- sign and magnitude: the top bit is the sign, the rest is the size
unfoldable pub sign_of : ℕ → ℕ → ℤ
sign_of width raw = cond (ltb raw (top_bit width)) (pos raw) (neg_ℤ (pos (raw - top_bit width)))

-- the year that a year and its offset say
abbrev pub real_year : ℤ → ℤ → ℤ
real_year year offset = year +ℤ pos 10000 *ℤ offset
