-- What is said of each public entry: it takes every input, it ends, and so much its contract says (`Entry`, of the crate `entry`).
-- Assumes nothing.
use mathlib.Core.Path.{◌≡◌}
use Rattle.lent.specs.Lent.{done, done_both}
use Rattle.skogmund.specs.Entries.{record_told, row_unpacked, listing_told}
use Rattle.skogmund.specs.Shelves.{emptied, joined, filed_field, filed_queue, slot_shown}
use Rattle.skogmund.specs.Parts.{part_told}
use Rattle.skogmund.specs.Messages.{message_told}
use Rattle.entry.specs.Entry.{Entry}
use Rattle.skogmund.proofs as code

pub skogmund-part : Entry code.part.skogmund_part.Reads.Asked code.part.skogmund_part.Reads.Learnt code.part.skogmund_part.Statement.statement (λ given r later. done r later.1.1.1.0.now ≡ part_told given.0 given.1.0.now given.1.1.0 given.1.1.1.0.now)
skogmund-part = record { takes = λ lent given. tt; ends = code.part.skogmund_part.Met.met; tells = λ lent given r later e. e }

pub skogmund-read : Entry code.skogmund_read.Reads.Asked code.skogmund_read.Reads.Learnt code.skogmund_read.Statement.statement (λ given r later. done r later.1.1.0.now ≡ record_told given.0 given.1.0.now given.1.1.0.now)
skogmund-read = record { takes = λ lent given. tt; ends = code.skogmund_read.Met.met; tells = λ lent given r later e. e }

pub skogmund-unpack : Entry code.skogmund_unpack.Reads.Asked code.skogmund_unpack.Reads.Learnt code.skogmund_unpack.Statement.statement (λ given r later. done r later.1.1.0.now ≡ row_unpacked given.0.now given.1.0.now given.1.1.0.now)
skogmund-unpack = record { takes = λ lent given. tt; ends = code.skogmund_unpack.Met.met; tells = λ lent given r later e. e }

pub skogmund-list : Entry code.skogmund_list.Reads.Asked code.skogmund_list.Reads.Learnt code.skogmund_list.Statement.statement (λ given r later. done_both r later.1.0.now later.1.1.0.now ≡ listing_told given.0.now given.1.0.now given.1.1.0.now)
skogmund-list = record { takes = λ lent given. tt; ends = code.skogmund_list.Met.met; tells = λ lent given r later e. e }

pub skogmund-message : Entry code.messages.skogmund_message.Reads.Asked code.messages.skogmund_message.Reads.Learnt code.messages.skogmund_message.Statement.statement (λ given r later. done_both r later.1.0.now later.1.1.0.now ≡ message_told given.0.now given.1.0.now given.1.1.0.now)
skogmund-message = record { takes = λ lent given. tt; ends = code.messages.skogmund_message.Met.met; tells = λ lent given r later e. e }

pub skogmund-empty : Entry code.shelves.skogmund_empty.Reads.Asked code.shelves.skogmund_empty.Reads.Learnt code.shelves.skogmund_empty.Statement.statement (λ given r later. done r later.0.now ≡ emptied given.0.now)
skogmund-empty = record { takes = λ lent given. tt; ends = code.shelves.skogmund_empty.Met.met; tells = λ lent given r later e. e }

pub skogmund-join : Entry code.shelves.skogmund_join.Reads.Asked code.shelves.skogmund_join.Reads.Learnt code.shelves.skogmund_join.Statement.statement (λ given r later. done r later.0.now ≡ joined given.0.now given.1.0.now)
skogmund-join = record { takes = λ lent given. tt; ends = code.shelves.skogmund_join.Met.met; tells = λ lent given r later e. e }

pub skogmund-file : Entry code.shelves.skogmund_file.Reads.Asked code.shelves.skogmund_file.Reads.Learnt code.shelves.skogmund_file.Statement.statement (λ given r later. done_both r later.0.now later.1.1.1.1.1.1.1.1.0.now ≡ filed_field given.0.now given.1.0 given.1.1.0 given.1.1.1.0.now given.1.1.1.1.0.now given.1.1.1.1.1.0.now given.1.1.1.1.1.1.0.now given.1.1.1.1.1.1.1.0.now given.1.1.1.1.1.1.1.1.0.now)
skogmund-file = record { takes = λ lent given. tt; ends = code.shelves.skogmund_file.Met.met; tells = λ lent given r later e. e }

pub skogmund-file-queue : Entry code.shelves.skogmund_file_queue.Reads.Asked code.shelves.skogmund_file_queue.Reads.Learnt code.shelves.skogmund_file_queue.Statement.statement (λ given r later. done_both r later.0.now later.1.1.0.now ≡ filed_queue given.0.now given.1.0.now given.1.1.0.now)
skogmund-file-queue = record { takes = λ lent given. tt; ends = code.shelves.skogmund_file_queue.Met.met; tells = λ lent given r later e. e }

pub skogmund-slot : Entry code.shelves.skogmund_slot.Reads.Asked code.shelves.skogmund_slot.Reads.Learnt code.shelves.skogmund_slot.Statement.statement (λ given r later. done r later.1.1.0.now ≡ slot_shown given.0.now given.1.0 given.1.1.0.now)
skogmund-slot = record { takes = λ lent given. tt; ends = code.shelves.skogmund_slot.Met.met; tells = λ lent given r later e. e }
