-- What is said of each public entry: it takes every input, it ends, and so much its contract says (`Entry`, of the crate `entry`).
-- Assumes nothing.
use mathlib.Core.Path.{◌≡◌}
use Rattle.queue.specs.Records.{record_of}
use Rattle.queue.specs.Bodies.{body_of}
use Rattle.cutting.specs.Cuts.{cut_of}
use Rattle.queue.specs.Walks.{rest_of, cut_left, sent_in}
use Rattle.queue.specs.Queues.{checked, record_step, record_filed, queue_filed}
use Rattle.entry.specs.Entry.{Entry}
use Rattle.queue.proofs as code

pub record-of : Entry code.record_of.Reads.Asked code.record_of.Reads.Learnt code.record_of.Statement.statement (λ given r later. r ≡ record_of given.0.now)
record-of = record { takes = λ lent given. tt; ends = code.record_of.Met.met; tells = λ lent given r later e. e }

pub records-of : Entry code.Records.of.Reads.Asked code.Records.of.Reads.Learnt code.Records.of.Statement.statement (λ given r later. (rest_of r ≡ given.0.now) × (cut_left r ≡ cut_of record_step given.0.now))
records-of = record { takes = λ lent given. tt; ends = code.Records.of.Met.met; tells = λ lent given r later e. e }

pub body-of : Entry code.body_of.Reads.Asked code.body_of.Reads.Learnt code.body_of.Statement.statement (λ given r later. r ≡ body_of given.0.now)
body-of = record { takes = λ lent given. tt; ends = code.body_of.Met.met; tells = λ lent given r later e. e }

pub check : Entry code.check.Reads.Asked code.check.Reads.Learnt code.check.Statement.statement (λ given r later. r ≡ checked given.0.now)
check = record { takes = λ lent given. tt; ends = code.check.Met.met; tells = λ lent given r later e. e }

pub file-record : Entry code.file_record.Reads.Asked code.file_record.Reads.Learnt code.file_record.Statement.statement (λ given r later. r ≡ record_filed given.0 (sent_in given.1.0))
file-record = record { takes = λ lent given. tt; ends = code.file_record.Met.met; tells = λ lent given r later e. e }

pub file : Entry code.file.Reads.Asked code.file.Reads.Learnt code.file.Statement.statement (λ given r later. r ≡ queue_filed given.0 given.1.0.now)
file = record { takes = λ lent given. tt; ends = code.file.Met.met; tells = λ lent given r later e. e }
