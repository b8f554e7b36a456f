-- What is said of each public entry: it takes every input, it ends, and so much its contract says (`Entry`, of the crate `entry`).
-- Assumes nothing.
use mathlib.Core.Path.{◌≡◌}
use mathlib.Core.List.{[], ◌∷◌, ◌++◌}
use Rattle.lent.specs.Writers.{writes}
use Rattle.text.specs.Text.{decimal, whole_number, time_text, refused_text}
use Rattle.entry.specs.Entry.{Entry}
use Rattle.text.proofs as code

pub number : Entry code.number.Reads.Asked code.number.Reads.Learnt code.number.Statement.statement (λ given r later. later.0.now ≡ writes given.0.now (decimal given.1.0))
number = record { takes = λ lent given. tt; ends = code.number.Met.met; tells = λ lent given r later e. e }

pub number-then : Entry code.number_then.Reads.Asked code.number_then.Reads.Learnt code.number_then.Statement.statement (λ given r later. later.0.now ≡ writes given.0.now (decimal given.1.0 ++ (given.1.1.0 ∷ [])))
number-then = record { takes = λ lent given. tt; ends = code.number_then.Met.met; tells = λ lent given r later e. e }

pub signed : Entry code.signed.Reads.Asked code.signed.Reads.Learnt code.signed.Statement.statement (λ given r later. later.0.now ≡ writes given.0.now (whole_number given.1.0))
signed = record { takes = λ lent given. tt; ends = code.signed.Met.met; tells = λ lent given r later e. e }

pub time : Entry code.time.Reads.Asked code.time.Reads.Learnt code.time.Statement.statement (λ given r later. later.0.now ≡ writes given.0.now (time_text given.1.0 given.1.1.0 given.1.1.1.0 given.1.1.1.1.0 given.1.1.1.1.1.0 given.1.1.1.1.1.1.0))
time = record { takes = λ lent given. tt; ends = code.time.Met.met; tells = λ lent given r later e. e }

pub refused : Entry code.refused.Reads.Asked code.refused.Reads.Learnt code.refused.Statement.statement (λ given r later. later.0.now ≡ writes given.0.now (refused_text given.1.0))
refused = record { takes = λ lent given. tt; ends = code.refused.Met.met; tells = λ lent given r later e. e }
