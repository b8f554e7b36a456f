-- What is said of each public entry: it takes every input, it ends, and so much its contract says (`Entry`, of the crate `entry`).
-- Assumes nothing.
use Rattle.std.proofs.Common.{◌*◌, ◌<◌, ◌^◌}
use Rattle.standard.specs.Input.{Holds}
use Rattle.entry.specs.Entry.{Entry}
use Rattle.standard.proofs as code
use contract.BorrowLft.{◌⊑◌, ⊑_static}
use contract.Lifetimes.{lft_at}
use denote.RattleType.{RattleType}

-- of any program, and a room of any size that memory has; what the program's type borrows, if anything, outlasts the call
pub run-takes : (P : RattleType) (room : _) (laws : _) (fits : _) (program : _) (dict : _) (lent : _) (given : _)
    → lft_at 5 3 tt lent ⊑ P.lives → room * 1 < 2 ^ 63 → code.run.Reads.Asked P room laws fits program dict lent given
run-takes P room laws fits program dict lent given outlasts has = (outlasts, (⊑_static _, has))

pub run-ends : {M : Type 1} → code.run.Statement.statement M
run-ends = code.run.Met.met

pub read_all : Entry code.read_all.Reads.Asked code.read_all.Reads.Learnt code.read_all.Statement.statement (λ given r later. Holds r later.1.0.now)
read_all = record { takes = λ lent given. tt; ends = code.read_all.Met.met; tells = λ lent given r later e. e }

pub read-failed : Entry code.read_failed.Reads.Asked code.read_failed.Reads.Learnt code.read_failed.Statement.statement (λ given r later. Unit {0})
read-failed = record { takes = λ lent given. tt; ends = code.read_failed.Met.met; tells = λ lent given r later e. tt }

pub print : Entry code.print.Reads.Asked code.print.Reads.Learnt code.print.Statement.statement (λ given r later. Unit {0})
print = record { takes = λ lent given. tt; ends = code.print.Met.met; tells = λ lent given r later e. tt }
