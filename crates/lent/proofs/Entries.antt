-- What is said of each public entry: it takes every input, it ends, and so much its contract says (`Entry`, of the crate `entry`).
-- Assumes nothing.
use mathlib.Core.Path.{◌≡◌}
use mathlib.Core.Bool.{true, false}
use mathlib.Core.List.{[], ◌∷◌}
use lib.Dec.{leb}
use lib.ListN.{length}
use Rattle.lent.specs.Lent.{done, over, if_room}
use Rattle.lent.specs.Writers.{says, writer, writes}
use Rattle.entry.specs.Entry.{Entry}
use Rattle.lent.proofs as code

pub writer-new : Entry code.Writer.new.Reads.Asked code.Writer.new.Reads.Learnt code.Writer.new.Statement.statement (λ given r later. r ≡ writer given.0 given.1.0)
writer-new = record { takes = λ lent given. tt; ends = code.Writer.new.Met.met; tells = λ lent given r later e. e }

pub writer-at : Entry code.Writer.at.Reads.Asked code.Writer.at.Reads.Learnt code.Writer.at.Statement.statement (λ given r later. r ≡ (says given.0.now).at)
writer-at = record { takes = λ lent given. tt; ends = code.Writer.at.Met.met; tells = λ lent given r later e. e }

pub writer-octet : Entry code.Writer.octet.Reads.Asked code.Writer.octet.Reads.Learnt code.Writer.octet.Statement.statement (λ given r later. later.0.now ≡ writes given.0.now (given.1.0 ∷ []))
writer-octet = record { takes = λ lent given. tt; ends = code.Writer.octet.Met.met; tells = λ lent given r later e. e }

pub writer-octets : Entry code.Writer.octets.Reads.Asked code.Writer.octets.Reads.Learnt code.Writer.octets.Statement.statement (λ given r later. later.0.now ≡ writes given.0.now given.1.0.now)
writer-octets = record { takes = λ lent given. tt; ends = code.Writer.octets.Met.met; tells = λ lent given r later e. e }

pub numbers : Entry code.numbers.Reads.Asked code.numbers.Reads.Learnt code.numbers.Statement.statement (λ given r later. done r later.0.now ≡ if_room true false (leb (length given.1.0.now) (length given.0.now)) (over given.0.now given.1.0.now) given.0.now)
numbers = record { takes = λ lent given. tt; ends = code.numbers.Met.met; tells = λ lent given r later e. e }
