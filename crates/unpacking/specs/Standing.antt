-- Where a run of the engine that carries stands.
-- Assumes nothing.
use Rattle.std.specs.Prelude.{ℕ, ◌+◌, ◌-◌, ◌*◌, ◌≤◌, ◌<◌, ◌≡◌, List, get_or}
use Rattle.unpacking.specs.Packed.{bits_from, packed_at}
use Rattle.unpacking.specs.declared.carrying.Run.{Run}

-- the first n places of a row have their numbers
abbrev pub First : ℕ → List ℕ → List ℕ → ℕ → Type 0
First bits xs row n = (j : ℕ) → j < n → get_or row j 0 ≡ packed_at bits xs j

-- the last `left` bits of so many octets are held
pub record Holds (xs : List ℕ) (taken held left : ℕ) : Type 0 where
  pub within : left ≤ 8 * taken
  pub value : held ≡ bits_from xs (8 * taken - left) left

-- between two numbers: fewer bits are held than an octet has
pub record Stands (xs : List ℕ) (run : Run) : Type 0 where
  pub holds : Holds xs run.taken run.held run.left
  pub few : run.left < 8

-- the number that begins with the bits held, and the run behind it
pub record Stepped (xs : List ℕ) (bits : ℕ) (run : Run) (number : ℕ) (next : Run) : Type 0 where
  pub value : number ≡ bits_from xs (8 * run.taken - run.left) bits
  pub place : 8 * next.taken - next.left ≡ 8 * run.taken - run.left + bits
  pub stands : Stands xs next
