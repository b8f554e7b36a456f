-- What is said of each public entry: it takes every input, it ends, and so much its contract says (`Entry`, of the crate `entry`).
-- Assumes nothing.
use mathlib.Core.Path.{◌≡◌}
use Rattle.filing.specs.Filing.{filed_of, stored_issue}
use Rattle.std.specs.Prelude.{None}
use Rattle.entry.specs.Entry.{Entry}
use Rattle.filing.proofs as code

pub issue-from : Entry code.issue_from.Reads.Asked code.issue_from.Reads.Learnt code.issue_from.Statement.statement (λ given r later. r ≡ stored_issue given.0)
issue-from = record { takes = λ lent given. tt; ends = code.issue_from.Met.met; tells = λ lent given r later e. e }

pub file-by-value : Entry code.file_by_value.Reads.Asked code.file_by_value.Reads.Learnt code.file_by_value.Statement.statement (λ given r later. r ≡ filed_of given.0 given.1.0 given.1.1.0 given.1.1.1.0.now given.1.1.1.1.0.now given.1.1.1.1.1.0.now given.1.1.1.1.1.1.0.now given.1.1.1.1.1.1.1.0.now)
file-by-value = record { takes = λ lent given. tt; ends = code.file_by_value.Met.met; tells = λ lent given r later e. e }

pub bench-reload : Entry code.bench_reload.Reads.Asked code.bench_reload.Reads.Learnt code.bench_reload.Statement.statement (λ given r later. r ≡ filed_of given.0 given.1.0 None given.1.1.0.now given.1.1.1.0.now given.1.1.1.1.0.now given.1.1.1.1.1.0.now given.1.1.1.1.1.1.0.now)
bench-reload = record { takes = λ lent given. tt; ends = code.bench_reload.Met.met; tells = λ lent given r later e. e }

-- what the shelf is left at is said of the last value under the reference, which is what its lender reads
pub file : Entry code.file.Reads.Asked code.file.Reads.Learnt code.file.Statement.statement (λ given r later. record { shelf = later.0.now; answer = r } ≡ filed_of given.0.now given.1.0 given.1.1.0 given.1.1.1.0.now given.1.1.1.1.0.now given.1.1.1.1.1.0.now given.1.1.1.1.1.1.0.now given.1.1.1.1.1.1.1.0.now)
file = record { takes = λ lent given. tt; ends = code.file.Met.met; tells = λ lent given r later e. e }
