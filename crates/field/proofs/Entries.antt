-- What is said of each public entry: it takes every input, it ends, and so much its contract says (`Entry`, of the crate `entry`).
-- Assumes nothing.
use mathlib.Core.Path.{◌≡◌}
use Rattle.layout.specs.Outcomes.{check_of}
use Rattle.field.specs.Field.{told, field_outcome, later_outcome}
use Rattle.entry.specs.Entry.{Entry}
use Rattle.field.proofs as code

pub read : Entry code.read.Reads.Asked code.read.Reads.Learnt code.read.Statement.statement (λ given r later. told r ≡ field_outcome given.0.now given.1.0.now given.1.1.0.now given.1.1.1.0.now given.1.1.1.1.0.now)
read = record { takes = λ lent given. tt; ends = code.read.Met.met; tells = λ lent given r later e. e }

pub check-later : Entry code.check_later.Reads.Asked code.check_later.Reads.Learnt code.check_later.Statement.statement (λ given r later. r ≡ check_of (later_outcome given.0 given.1.0.now given.1.1.0.now given.1.1.1.0.now))
check-later = record { takes = λ lent given. tt; ends = code.check_later.Met.met; tells = λ lent given r later e. e }
