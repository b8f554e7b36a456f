-- What a program's number says that may be missing, and which number octets stand for that may be missing.
-- Assumes nothing.
use Rattle.std.specs.Prelude.{ℕ, ℤ, cond, eqb, Option, Some, None}
use Rattle.octets.specs.Octets.{sign_of, all_ones}
use Rattle.layout.specs.Fields.{Value, missing, is, plain}

abbrev pub in32 : Option ℕ → Value
in32 None = missing
in32 (Some n) = plain n

abbrev pub in_signed : Option ℤ → Value
in_signed None = missing
in_signed (Some z) = is z

-- the number in so many octets, and missing where all of their bits are one
abbrev pub unless_missing : ℕ → ℕ → Option ℕ
unless_missing width x = cond (eqb x (all_ones width)) None (Some x)

-- the same of a signed number
abbrev pub signed_unless_missing : ℕ → ℕ → Option ℤ
signed_unless_missing width x = cond (eqb x (all_ones width)) None (Some (sign_of width x))
