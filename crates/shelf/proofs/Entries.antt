-- What is said of each public entry: it takes every input, it ends, and so much its contract says (`Entry`, of the crate `entry`).
-- Assumes nothing.
use mathlib.Core.Path.{◌≡◌}
use Rattle.shelf.specs.Shelves.{empty_shelf, slot_at, put_of, join_shelf}
use Rattle.entry.specs.Entry.{Entry}
use Rattle.shelf.proofs as code

pub shelf-empty : Entry code.Shelf.empty.Reads.Asked code.Shelf.empty.Reads.Learnt code.Shelf.empty.Statement.statement (λ given r later. r ≡ empty_shelf)
shelf-empty = record { takes = λ lent given. tt; ends = code.Shelf.empty.Met.met; tells = λ lent given r later e. e }

pub shelf-slot : Entry code.Shelf.slot.Reads.Asked code.Shelf.slot.Reads.Learnt code.Shelf.slot.Statement.statement (λ given r later. r ≡ slot_at given.0 given.1.0)
shelf-slot = record { takes = λ lent given. tt; ends = code.Shelf.slot.Met.met; tells = λ lent given r later e. e }

pub shelf-put : Entry code.Shelf.put.Reads.Asked code.Shelf.put.Reads.Learnt code.Shelf.put.Statement.statement (λ given r later. r ≡ put_of given.0 given.1.0 given.1.1.0)
shelf-put = record { takes = λ lent given. tt; ends = code.Shelf.put.Met.met; tells = λ lent given r later e. e }

pub shelf-join : Entry code.Shelf.join.Reads.Asked code.Shelf.join.Reads.Learnt code.Shelf.join.Statement.statement (λ given r later. r ≡ join_shelf given.0 given.1.0)
shelf-join = record { takes = λ lent given. tt; ends = code.Shelf.join.Met.met; tells = λ lent given r later e. e }
