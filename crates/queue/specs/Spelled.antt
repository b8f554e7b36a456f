-- How a queue is written: its records one behind the other, each as slot, issue + 1 (0: not named), body length, body, and the body as five
-- sections back to back.
-- Assumes nothing.
use Rattle.std.specs.Prelude.{ℕ, ◌+◌, ◌≤◌, ◌≡◌, length, Option, Some, None}
use mathlib.Core.List.{List, ◌++◌, Memᴰ}
use Rattle.cutting.specs.Cuts.{strung}
use Rattle.cutting.specs.Numbers.{spelled}
use Rattle.cutting.specs.Sections.{Sized}
use Rattle.queue.specs.Queues.{Sent}

abbrev pub stored_of : Option ℕ → ℕ
stored_of None = 0
stored_of (Some n) = n + 1

-- the three numbers in groups of seven bits, at most 5 octets each, and the body
unfoldable pub spelled_record : Sent → List ℕ
spelled_record r = spelled 5 r.slot ++ (spelled 5 (stored_of r.issue) ++ (spelled 5 (length r.body) ++ r.body))

abbrev pub spelled_all : List Sent → List ℕ
spelled_all rs = strung spelled_record rs

-- a record can be written: its three numbers are at most 4,294,967,296
pub record Spellable (r : Sent) : Type 0 where
  pub slot : r.slot ≤ 4294967296
  pub issue : stored_of r.issue ≤ 4294967296
  pub body : length r.body ≤ 4294967296

abbrev pub AllSpellable : List Sent → Type 0
AllSpellable rs = (r : Sent) → Memᴰ r rs → Spellable r

-- a queue that is accepted: it has at most 65,536 octets, and records write it
pub record FollowsQueue (q : List ℕ) : Type 0 where
  pub small : length q ≤ 65536
  pub records : List Sent
  pub spellable : AllSpellable records
  pub written : q ≡ spelled_all records

-- ---- a body

-- five sections back to back
abbrev pub back_to_back : List ℕ → List ℕ → List ℕ → List ℕ → List ℕ → List ℕ
back_to_back s1 s3 s4 s5 s7 = s1 ++ (s3 ++ (s4 ++ (s5 ++ s7)))

-- these octets are exactly five sections, each of 5 octets or more and as many as its own octets 1-4 say
pub record FiveSections (body : List ℕ) : Type 0 where
  pub s1 : List ℕ
  pub s3 : List ℕ
  pub s4 : List ℕ
  pub s5 : List ℕ
  pub s7 : List ℕ
  pub sized₁ : Sized s1
  pub sized₃ : Sized s3
  pub sized₄ : Sized s4
  pub sized₅ : Sized s5
  pub sized₇ : Sized s7
  pub strung : body ≡ back_to_back s1 s3 s4 s5 s7
