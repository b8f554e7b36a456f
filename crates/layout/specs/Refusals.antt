-- What a table of refusals is, and what it means that a refusal is one of them.
-- Assumes nothing.
use Rattle.std.specs.Prelude.{ℕ, ◌≤◌, ◌≡◌, List, [], ◌∷◌, ◌++◌, Bool, true, false, not, cond, eqb}
use Rattle.layout.specs.declared.Refusal.{Refusal}

abbrev pub one_of : List ℕ → ℕ → Bool
one_of [] n = false
one_of (m ∷ ms) n = cond (eqb n m) true (one_of ms n)

-- ---- the place

-- the numbers with which a refusal has a place
abbrev pub has_place : ℕ → Bool
has_place number = one_of (8 ∷ 11 ∷ 21 ∷ []) number

-- a section has at most 65,536 octets, and with 11 the place is the octet behind its last
abbrev pub last_place : ℕ
last_place = 65537

-- the place is 0, except with those numbers
pub record PlaceKept (number place : ℕ) : Type 0 where
  pub given : not (eqb place 0) ≡ has_place number
  pub within : place ≤ last_place

-- ---- the number, by the section

-- a section, or 0 for what is no section, and the numbers with which it may be refused; a table has each section once
pub record Row : Type 0 where
  pub section : ℕ
  pub numbers : List ℕ

abbrev pub row : ℕ → List ℕ → Row
row section numbers = record { section = section; numbers = numbers }

-- the numbers of a section in a table
abbrev pub numbers_of : List Row → ℕ → List ℕ
numbers_of [] section = []
numbers_of (r ∷ rs) section = cond (eqb section r.section) r.numbers (numbers_of rs section)

-- a refusal that document 01 has: the table lists its number for its section, and its place is as the number's is
pub record Listed (table : List Row) (x : Refusal) : Type 0 where
  pub listed : one_of (numbers_of table x.section) x.number ≡ true
  pub placed : PlaceKept x.number x.place

-- ---- the numbers that sections share

-- 1 to 4, the numbers of every section's head; then 5
abbrev pub head_numbers : List ℕ
head_numbers = 1 ∷ 2 ∷ 3 ∷ 4 ∷ []

abbrev pub opening_numbers : List ℕ
opening_numbers = 5 ∷ head_numbers

-- once the template is known, beside the section's own. 11 is among the section's own, since 7 catches what is shorter than a template's only total
abbrev pub fitting_numbers : List ℕ
fitting_numbers = 8 ∷ 21 ∷ []

abbrev pub template_numbers : List ℕ
template_numbers = 7 ∷ fitting_numbers

-- of every section that has templates; 6 is the template's own
abbrev pub shared_numbers : List ℕ
shared_numbers = opening_numbers ++ (6 ∷ template_numbers)
