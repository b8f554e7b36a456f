-- Octets cut into items, one after the other, to the end or to where none stands. What an item is, and how many octets it takes, is said by a
-- step: the records of a queue, the sections of a message.
-- Assumes nothing.
use Rattle.std.specs.Prelude.{ℕ, zero, suc, List, [], ◌∷◌, ◌++◌, Bool, true, false, cond, eqb, length, drop}

-- the item at the start of some octets and how many of them it takes, or that none stands there
pub data Step (A : Type 0) : Type 0 where
  no_item : Step A
  item : A → ℕ → Step A

-- the items from the start, and whether they are all of the octets
pub record Cut (A : Type 0) : Type 0 where
  pub items : List A
  pub whole : Bool

-- an item in front of those that are cut behind it
abbrev pub in_front : {A : Type 0} → A → Cut A → Cut A
in_front x c = record { items = x ∷ c.items; whole = c.whole }

-- the first item and what is cut behind it, or none: nothing behind it is looked at
abbrev pub first_item : {A : Type 0} → List ℕ → Step A → (List ℕ → Cut A) → Cut A
first_item s no_item next = record { items = []; whole = false }
first_item s (item x end) next = in_front x (next (drop end s))

-- no octet is left
abbrev pub at_end : List ℕ → Bool
at_end s = eqb (length s) 0

-- at most so many items
unfoldable pub cut_in : {A : Type 0} → (List ℕ → Step A) → ℕ → List ℕ → Cut A
cut_in step zero s = record { items = []; whole = at_end s }
cut_in step (suc most) s = cond (at_end s) (record { items = []; whole = true }) (first_item s (step s) (λ rest. cut_in step most rest))

-- there are no more items than octets
unfoldable pub cut_of : {A : Type 0} → (List ℕ → Step A) → List ℕ → Cut A
cut_of step s = cut_in step (length s) s

-- the octets of these items, one behind the other
unfoldable pub strung : {A : Type 0} → (A → List ℕ) → List A → List ℕ
strung spell [] = []
strung spell (x ∷ xs) = spell x ++ strung spell xs
