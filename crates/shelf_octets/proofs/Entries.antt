-- What is said of each public entry: it takes every input, it ends, and so much its contract says (`Entry`, of the crate `entry`).
-- Assumes nothing.
use mathlib.Core.Path.{◌≡◌}
use Rattle.shelf.specs.Shelves.{slot_at}
use Rattle.lent.specs.Written.{written, append}
use Rattle.shelf_octets.specs.ShelfOctets.{shelf_in, as_octets}
use Rattle.entry.specs.Entry.{Entry}
use Rattle.shelf_octets.proofs as code

pub read : Entry code.read.Reads.Asked code.read.Reads.Learnt code.read.Statement.statement (λ given r later. r ≡ shelf_in given.0.now)
read = record { takes = λ lent given. tt; ends = code.read.Met.met; tells = λ lent given r later e. e }

pub slot_of : Entry code.slot_of.Reads.Asked code.slot_of.Reads.Learnt code.slot_of.Statement.statement (λ given r later. r ≡ slot_at (shelf_in given.0.now) given.1.0)
slot_of = record { takes = λ lent given. tt; ends = code.slot_of.Met.met; tells = λ lent given r later e. e }

pub write : Entry code.write.Reads.Asked code.write.Reads.Learnt code.write.Statement.statement (λ given r later. written later.0.now r ≡ append (written given.0.now 0) (as_octets given.1.0))
write = record { takes = λ lent given. tt; ends = code.write.Met.met; tells = λ lent given r later e. e }
