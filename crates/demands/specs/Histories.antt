-- What demand 3 says of shelves as octets: which histories are meant, and which octets say the shelf of one.
-- Assumes nothing.
use Rattle.std.specs.Prelude.{ℕ, ◌^◌, ◌<◌, ◌≡◌, List}
use Rattle.octets.specs.Octets.{AllOctets}
use Rattle.shelf_octets.specs.ShelfOctets.{shelf_in, as_octets, Held}
use Rattle.filing.specs.Filing.{issue_of, issue_from}
use Rattle.queue.specs.History.{FiledField, History, start, put, file, queue, join, shelf_of}

-- what a history was given is octets, issues of 32 bits, and cards as a machine has them
unfoldable pub Given : History → Type 0
Given start = Unit {0}
Given (put slot card h) = Held card × Given h
Given (file slot x h) = AllOctets x.s1 × (issue_of x.issue < 2 ^ 32) × Given h
Given (queue q h) = AllOctets q × Given h
Given (join g h) = Given g × Given h

-- these octets say the shelf at the end of such a history, whatever else stands where a slot is empty
pub record Leaves (h : History) (octets : List ℕ) : Type 0 where
  pub given : Given h
  pub says : shelf_in octets ≡ shelf_of h

-- and they are the very ones in which that shelf is written
pub record Writes (h : History) (octets : List ℕ) : Type 0 where
  pub leaves : Leaves h octets
  pub written : octets ≡ as_octets (shelf_of h)

-- a field as `skogmund_file` is given it, with its issue as a queue has it
abbrev pub field_of : ℕ → List ℕ → List ℕ → List ℕ → List ℕ → List ℕ → FiledField
field_of stored s1 s3 s4 s5 s7 = record { issue = issue_from stored; s1 = s1; s3 = s3; s4 = s4; s5 = s5; s7 = s7 }
