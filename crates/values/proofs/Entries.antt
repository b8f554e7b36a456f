-- What is said of each public entry: it takes every input, it ends, and so much its contract says (`Entry`, of the crate `entry`).
-- Assumes nothing.
use mathlib.Core.Path.{◌≡◌}
use Rattle.lent.specs.Lent.{done}
use Rattle.values.specs.Records.{section_outcome, into_row}
use Rattle.entry.specs.Entry.{Entry}
use Rattle.values.proofs as code

pub read-into : Entry code.read_into.Reads.Asked code.read_into.Reads.Learnt code.read_into.Statement.statement (λ given r later. done r later.1.1.0.now ≡ into_row (section_outcome given.0 given.1.0.now) given.1.1.0.now)
read-into = record { takes = λ lent given. tt; ends = code.read_into.Met.met; tells = λ lent given r later e. e }
