-- Numbers in groups of seven bits, as queues have them: least first, the top bit set on all but the last octet; shortest form only, at most 5
-- octets, at most 4,294,967,296.
-- Assumes nothing.
use Rattle.std.specs.Prelude.{ℕ, zero, suc, ◌+◌, ◌*◌, ◌-◌, ◌/◌, ◌%◌, List, [], ◌∷◌, cond, ltb, eqb, Option, Some, None}
use Rattle.cutting.specs.declared.Number.{Number}

-- this number, in so many octets
abbrev pub found : ℕ → ℕ → Option Number
found n count = Some (record { value = n; octets = count })

-- a group with the top bit set, and then what follows it; a 0 that follows would be a longer form
abbrev pub before : ℕ → Option Number → Option Number
before low None = None
before low (Some x) = cond (eqb x.value 0) None (found (low + 128 * x.value) (suc x.octets))

-- the groups at the start of these octets, at most so many
unfoldable pub groups : ℕ → List ℕ → Option Number
groups zero s = None
groups (suc most) [] = None
groups (suc most) (x ∷ xs) = cond (ltb x 128) (found x 1) (before (x - 128) (groups most xs))

abbrev pub bounded : Option Number → Option Number
bounded None = None
bounded (Some x) = cond (ltb 4294967296 x.value) None (Some x)

-- the number at the start of these octets
unfoldable pub leading_number : List ℕ → Option Number
leading_number s = bounded (groups 5 s)

-- what is said by a number and how many octets it takes, or what is said where none stands
abbrev pub with_number : {A : Type 0} → Option Number → A → (ℕ → ℕ → A) → A
with_number None other next = other
with_number (Some x) other next = next x.value x.octets

-- ---- the one form of a number

-- its groups, in at most so many octets
unfoldable pub spelled : ℕ → ℕ → List ℕ
spelled zero n = []
spelled (suc most) n = cond (ltb n 128) (n ∷ []) ((128 + n % 128) ∷ spelled most (n / 128))
