-- What is said of each public entry: it takes every input, it ends, and so much its contract says (`Entry`, of the crate `entry`).
-- Assumes nothing.
use mathlib.Core.Path.{◌≡◌}
use Rattle.packing.specs.Unpacking.{Unpacks}
use Rattle.layout.specs.Outcomes.{told}
use Rattle.packing.specs.Section5.{values_in₅, outcome₅}
use Rattle.packing.specs.Section7.{values_in₇, outcome₇}
use Rattle.entry.specs.Entry.{Entry}
use Rattle.packing.proofs as code

pub read : Entry code.read.Reads.Asked code.read.Reads.Learnt code.read.Statement.statement (λ given r later. told values_in₅ r ≡ outcome₅ given.0.now)
read = record { takes = λ lent given. tt; ends = code.read.Met.met; tells = λ lent given r later e. e }

pub read-data : Entry code.read_data.Reads.Asked code.read_data.Reads.Learnt code.read_data.Statement.statement (λ given r later. told values_in₇ r ≡ outcome₇ given.1.0 given.1.1.0 given.0.now)
read-data = record { takes = λ lent given. tt; ends = code.read_data.Met.met; tells = λ lent given r later e. e }

pub unpack : Entry code.unpack.Reads.Asked code.unpack.Reads.Learnt code.unpack.Statement.statement (λ given r later. Unpacks given.0.now given.1.0.now given.1.1.0.now r later.1.1.0.now)
unpack = record { takes = λ lent given. tt; ends = code.unpack.Met.met; tells = λ lent given r later e. e }
