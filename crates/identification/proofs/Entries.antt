-- What is said of each public entry: it takes every input, it ends, and so much its contract says (`Entry`, of the crate `entry`).
-- Assumes nothing.
use mathlib.Core.Path.{◌≡◌}
use Rattle.layout.specs.Outcomes.{told}
use Rattle.identification.specs.Section1.{values_in, outcome₁}
use Rattle.entry.specs.Entry.{Entry}
use Rattle.identification.proofs as code

pub read : Entry code.read.Reads.Asked code.read.Reads.Learnt code.read.Statement.statement (λ given r later. told values_in r ≡ outcome₁ given.0.now)
read = record { takes = λ lent given. tt; ends = code.read.Met.met; tells = λ lent given r later e. e }
