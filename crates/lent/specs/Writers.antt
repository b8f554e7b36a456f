-- A lent buffer with the index from which it is written on.
-- Assumes nothing.
use Rattle.std.specs.Prelude.{ℕ, List}
use Rattle.std.specs.Borrow.{MutBor}
use Rattle.lent.specs.Written.{Written, written, append}
use Rattle.lent.specs.declared.Writer.{Writer}

-- a writer into a buffer from an index on
abbrev pub writer : MutBor (List ℕ) → ℕ → Writer
writer room at = record { room = room; at = at }

-- its buffer as it is now, and the index after what is written
abbrev pub says : Writer → Written
says w = written w.room.now w.at

-- the writer into the same buffer after more octets, each if there is room
abbrev pub writes : Writer → List ℕ → Writer
writes w t = let x = append (says w) t in record { room = record w.room { now = x.octets }; at = x.at }
