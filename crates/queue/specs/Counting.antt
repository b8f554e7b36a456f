-- What a queue's counts are: "kept (the slot changed), passed (it did not) and refused; the three sum to the records", defined by the slots
-- before and after each record.
-- Assumes nothing.
use Rattle.std.specs.Prelude.{ℕ, ◌+◌, ◌≡◌, List, [], ◌∷◌, length, Result, Ok, Err}
use Rattle.shelf.specs.declared.Shelf.{Shelf}
use Rattle.filing.specs.Filing.{Said}
use Rattle.layout.specs.declared.Refusal.{Refusal}
use Rattle.filing.specs.declared.Change.{Change}
use Rattle.filing.specs.declared.Change.TheVariants.{Kept, Passed}
use Rattle.queue.specs.Queues.{Sent, record_filing, record_filed, three_together}
use Rattle.queue.specs.declared.Counts.{Counts}

-- what the records are answered, in the queue's order, each with the shelf that those before it left
unfoldable pub answers_of : Shelf → List Sent → List (Result Change Refusal)
answers_of s [] = []
answers_of s (r ∷ rs) = (record_filed s r).answer ∷ answers_of (record_filed s r).shelf rs

-- 1 for that answer, and 0 for the two others
abbrev pub is_kept : Result Change Refusal → ℕ
is_kept (Ok Kept) = 1
is_kept (Ok Passed) = 0
is_kept (Err x) = 0

abbrev pub is_passed : Result Change Refusal → ℕ
is_passed (Ok Kept) = 0
is_passed (Ok Passed) = 1
is_passed (Err x) = 0

abbrev pub is_refused : Result Change Refusal → ℕ
is_refused (Ok Kept) = 0
is_refused (Ok Passed) = 0
is_refused (Err x) = 1

-- how many of the answers are that one: the sum
unfoldable pub how_many : (Result Change Refusal → ℕ) → List (Result Change Refusal) → ℕ
how_many is [] = 0
how_many is (a ∷ rest) = is a + how_many is rest

-- of each record, with its filing and the shelf before and after it: it is answered as these are (`Said`)
unfoldable pub AllSaid : Shelf → List Sent → Type 0
AllSaid s [] = Unit {0}
AllSaid s (r ∷ rs) = Said s r.slot (record_filing r) (record_filed s r).shelf (record_filed s r).answer × AllSaid (record_filed s r).shelf rs

-- these are the counts of records that are filed to a shelf: how many are answered kept, passed and refused; every shelf has 64 slots
pub record Reports (shelf : Shelf) (records : List Sent) (n : Counts) : Type 0 where
  pub kept : n.kept ≡ how_many is_kept (answers_of shelf records)
  pub passed : n.passed ≡ how_many is_passed (answers_of shelf records)
  pub refused : n.refused ≡ how_many is_refused (answers_of shelf records)
  pub slots : length shelf.slots ≡ 64 → AllSaid shelf records
  pub sum : three_together n ≡ length records
