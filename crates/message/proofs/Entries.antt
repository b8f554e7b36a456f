-- What is said of each public entry: it takes every input, it ends, and so much its contract says (`Entry`, of the crate `entry`).
-- Assumes nothing.
use mathlib.Core.Path.{◌≡◌}
use Rattle.std.specs.Prelude.{take}
use Rattle.message.specs.Walk.{told}
use Rattle.message.specs.Messages.{read_message, section_in, field_of, span_of}
use Rattle.entry.specs.Entry.{Entry}
use Rattle.message.proofs as code

pub read : Entry code.read.Reads.Asked code.read.Reads.Learnt code.read.Statement.statement (λ given r later. told r ≡ read_message given.0.now)
read = record { takes = λ lent given. tt; ends = code.read.Met.met; tells = λ lent given r later e. e }

pub fields-found : Entry code.Fields.found.Reads.Asked code.Fields.found.Reads.Learnt code.Fields.found.Statement.statement (λ given r later. r.now ≡ take given.0.now.count given.0.now.fields)
fields-found = record { takes = λ lent given. tt; ends = code.Fields.found.Met.met; tells = λ lent given r later e. e }

pub section : Entry code.section.Reads.Asked code.section.Reads.Learnt code.section.Statement.statement (λ given r later. r.now ≡ section_in given.0.now (told given.1.0) given.1.1.0 given.1.1.1.0)
section = record { takes = λ lent given. tt; ends = code.section.Met.met; tells = λ lent given r later e. e }

pub field-of : Entry code.field_of.Reads.Asked code.field_of.Reads.Learnt code.field_of.Statement.statement (λ given r later. r ≡ field_of (told given.0) given.1.0)
field-of = record { takes = λ lent given. tt; ends = code.field_of.Met.met; tells = λ lent given r later e. e }

pub span-of : Entry code.span_of.Reads.Asked code.span_of.Reads.Learnt code.span_of.Statement.statement (λ given r later. r ≡ span_of given.0 given.1.0)
span-of = record { takes = λ lent given. tt; ends = code.span_of.Met.met; tells = λ lent given r later e. e }
