-- A section as a list of fields, one after the other, and what it says of the octets of a section.
-- Assumes nothing.
use Rattle.std.specs.Prelude.{ℕ, ◌+◌, ◌≡◌, List, [], ◌∷◌, ◌++◌, Bool, true, not, cond, ◌&&◌, leb, eqb, ℤ, pos, nat_abs, length}
use Rattle.octets.specs.Octets.{be_at, part, sign_of, all_ones}

-- ---- values

-- what a field says: a whole number, or that it is missing; or that the template has no such field; or which part follows, which no octets say
pub data Value : Type 0 where
  none : Value
  missing : Value
  is : ℤ → Value
  which : ℕ → Value

abbrev pub plain : ℕ → Value
plain x = is (pos x)

-- the number that a value says, with its sign and without; 0 of one that says none
abbrev pub whole_in : Value → ℤ
whole_in none = pos 0
whole_in missing = pos 0
whole_in (is z) = z
whole_in (which n) = pos n

abbrev pub natural_in : Value → ℕ
natural_in v = nat_abs (whole_in v)

-- how the number in some octets says a value: as it is, by sign and magnitude, or so with all ones for missing
pub data Meaning : Type 0 where
  unsigned : Meaning
  signed : Meaning
  or_missing : Meaning → Meaning

abbrev pub means : Meaning → ℕ → ℕ → Value
means unsigned width x = plain x
means signed width x = is (sign_of width x)
means (or_missing m) width x = cond (eqb x (all_ones width)) missing (means m width x)

-- ---- a field, wherever it stands

pub data Field : Type 0 where
  -- octets of which a record holds the value: how many, which numbers they may have, and how these are read
  held : ℕ → (ℕ → Bool) → Meaning → Field
  -- no octets: a value that a record holds all the same
  said : Value → Field
  -- octets that a caller is shown as they are, and of which a record holds nothing
  shown : ℕ → Field

abbrev pub width : Field → ℕ
width (held w a m) = w
width (said v) = 0
width (shown w) = w

abbrev pub allowed : Field → ℕ → Bool
allowed (held w a m) x = a x
allowed (said v) x = true
allowed (shown w) x = true

-- what a record holds of a field
abbrev pub reads : Field → ℕ → List Value
reads (held w a m) x = means m w x ∷ []
reads (said v) x = v ∷ []
reads (shown w) x = []

-- ---- the kinds of fields

abbrev pub anything : ℕ → Bool
anything x = true

unfoldable pub between : ℕ → ℕ → ℕ → Bool
between low high x = leb low x && leb x high

abbrev pub not_ones : ℕ → ℕ → Bool
not_ones width x = not (eqb x (all_ones width))

abbrev pub not_zero : ℕ → Bool
not_zero x = not (eqb x 0)

-- a raw number; one within a range; one that is never missing; a signed one that is never missing
abbrev pub raw : ℕ → Field
raw w = held w anything unsigned

abbrev pub ranged : ℕ → ℕ → ℕ → Field
ranged w low high = held w (between low high) unsigned

abbrev pub present : ℕ → Field
present w = held w (not_ones w) unsigned

abbrev pub signed_present : ℕ → Field
signed_present w = held w (not_ones w) signed

-- a signed number that takes every value
abbrev pub raw_signed : ℕ → Field
raw_signed w = held w anything signed

-- a number or missing; a signed one or missing; a number that is not zero, or missing
abbrev pub optional : ℕ → Field
optional w = held w anything (or_missing unsigned)

abbrev pub optional_signed : ℕ → Field
optional_signed w = held w anything (or_missing signed)

abbrev pub nonzero_or_missing : ℕ → Field
nonzero_or_missing w = held w not_zero (or_missing unsigned)

-- a field that the template lacks, and a number that says which part follows
abbrev pub lacking : Field
lacking = said none

abbrev pub tag : ℕ → Field
tag n = said (which n)

-- ---- fields one after the other

-- how many octets they have
unfoldable pub width_of : List Field → ℕ
width_of [] = 0
width_of (f ∷ fs) = width f + width_of fs

-- a field and its first octet
pub record FieldAt : Type 0 where
  pub at : ℕ
  pub field : Field

-- the first starts `k` octets after octet `end`, and each follows the one before it
unfoldable pub placed : ℕ → ℕ → List Field → List FieldAt
placed end k [] = []
placed end k (f ∷ fs) = record { at = end + k; field = f } ∷ placed end (k + width f) fs

-- fields that follow octet `end`; a section's own follow octet 0
abbrev pub after : ℕ → List Field → List FieldAt
after end fs = placed end 1 fs

-- ---- which octets they have

-- octets that stand together: the number of the first, and how many
pub record Run : Type 0 where
  pub first : ℕ
  pub count : ℕ

abbrev pub run : ℕ → ℕ → Run
run first count = record { first = first; count = count }

-- those of a field; what is said without octets has none
abbrev pub run_of : ℕ → Field → List Run
run_of at (held w a m) = run at w ∷ []
run_of at (said v) = []
run_of at (shown w) = run at w ∷ []

unfoldable pub runs : List FieldAt → List Run
runs [] = []
runs (p ∷ ps) = run_of p.at p.field ++ runs ps

-- one after the other they are the octets from `next` to `last`, each once: every run starts where the one before it ends
unfoldable pub Cover : ℕ → List Run → ℕ → Type 0
Cover next [] last = next ≡ last + 1
Cover next (r ∷ rs) last = (r.first ≡ next) × Cover (next + r.count) rs last

-- ---- what a section's octets say

-- the number in a field's octets
abbrev pub raw_at : FieldAt → List ℕ → ℕ
raw_at p s = be_at s p.at (width p.field)

-- the values of the fields, in order
unfoldable pub values_of : List FieldAt → List ℕ → List Value
values_of [] s = []
values_of (p ∷ ps) s = reads p.field (raw_at p s) ++ values_of ps s

-- the first octet of the lowest field whose number is out of its range, and `later` if there is none
unfoldable pub lowest_bad : List FieldAt → List ℕ → ℕ → ℕ
lowest_bad [] s later = later
lowest_bad (p ∷ ps) s later = cond (allowed p.field (raw_at p s)) (lowest_bad ps s later) p.at

-- the same, and 0 if there is none
abbrev pub bad_place : List FieldAt → List ℕ → ℕ
bad_place ps s = lowest_bad ps s 0

-- no field is out of its range
unfoldable pub AllAllowed : List FieldAt → List ℕ → Type 0
AllAllowed [] s = Unit {0}
AllAllowed (p ∷ ps) s = (allowed p.field (raw_at p s) ≡ true) × AllAllowed ps s

-- the octets of the fields, strung together
unfoldable pub octets_of : List FieldAt → List ℕ → List ℕ
octets_of [] s = []
octets_of (p ∷ ps) s = part s p.at (width p.field) ++ octets_of ps s

-- ---- the fields cover a section

-- the fields stand where a layout has them by octet numbers; these are 1 to the length, each once; and the octets that stand there, strung
-- together, are the section
pub record Covered (ps : List FieldAt) (layout : List Run) (s : List ℕ) : Type 0 where
  pub stand : runs ps ≡ layout
  pub numbers : Cover 1 layout (length s)
  pub strung : octets_of ps s ≡ s
