-- What is said of each public entry: it takes every input, it ends, and so much its contract says (`Entry`, of the crate `entry`).
-- Assumes nothing.
use mathlib.Core.Path.{◌≡◌}
use Rattle.cutting.specs.Numbers.{leading_number}
use Rattle.cutting.specs.Sections as sections
use Rattle.entry.specs.Entry.{Entry}
use Rattle.cutting.proofs as code

pub leading-number : Entry code.leading_number.Reads.Asked code.leading_number.Reads.Learnt code.leading_number.Statement.statement (λ given r later. r ≡ leading_number given.0.now)
leading-number = record { takes = λ lent given. tt; ends = code.leading_number.Met.met; tells = λ lent given r later e. e }

pub end-after : Entry code.end_after.Reads.Asked code.end_after.Reads.Learnt code.end_after.Statement.statement (λ given r later. r ≡ sections.end_after given.0.now given.1.0)
end-after = record { takes = λ lent given. tt; ends = code.end_after.Met.met; tells = λ lent given r later e. e }

pub stretch : Entry code.stretch.Reads.Asked code.stretch.Reads.Learnt code.stretch.Statement.statement (λ given r later. r.now ≡ sections.stretch given.0.now given.1.0 given.1.1.0)
stretch = record { takes = λ lent given. tt; ends = code.stretch.Met.met; tells = λ lent given r later e. e }
