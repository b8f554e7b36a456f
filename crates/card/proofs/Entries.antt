-- What is said of each public entry: it takes every input, it ends, and so much its contract says (`Entry`, of the crate `entry`).
-- Assumes nothing.
use mathlib.Core.Path.{◌≡◌}
use Rattle.octets.specs.Octets.{part}
use Rattle.card.specs.Key.{less_card}
use Rattle.entry.specs.Entry.{Entry}
use Rattle.card.proofs as code

pub product_at : Entry code.product_at.Reads.Asked code.product_at.Reads.Learnt code.product_at.Statement.statement (λ given r later. r ≡ part given.0.now given.1.0 27)
product_at = record { takes = λ lent given. tt; ends = code.product_at.Met.met; tells = λ lent given r later e. e }

pub less : Entry code.less.Reads.Asked code.less.Reads.Learnt code.less.Statement.statement (λ given r later. r ≡ less_card given.0 given.1.0)
less = record { takes = λ lent given. tt; ends = code.less.Met.met; tells = λ lent given r later e. e }
