-- What is said of each public entry: it takes every input, it ends, and so much its contract says (`Entry`, of the crate `entry`).
-- Assumes nothing.
use mathlib.Core.Path.{◌≡◌}
use lib.ListN.{length, replicate}
use Rattle.lent.specs.Written.{written, append, starts_with}
use Rattle.contents.specs.Contents as texts
use Rattle.entry.specs.Entry.{Entry}
use Rattle.contents.proofs as code

pub message-buffer : Entry code.message_buffer.Reads.Asked code.message_buffer.Reads.Learnt code.message_buffer.Statement.statement (λ given r later. (r ≡ replicate 65537 0) × (65537 ≡ length r))
message-buffer = record { takes = λ lent given. tt; ends = code.message_buffer.Met.met; tells = λ lent given r later e. e }

pub contents-buffer : Entry code.contents_buffer.Reads.Asked code.contents_buffer.Reads.Learnt code.contents_buffer.Statement.statement (λ given r later. (r ≡ replicate 8192 0) × (8192 ≡ length r))
contents-buffer = record { takes = λ lent given. tt; ends = code.contents_buffer.Met.met; tells = λ lent given r later e. e }

pub contents : Entry code.contents.Reads.Asked code.contents.Reads.Learnt code.contents.Statement.statement (λ given r later. written later.1.0.now r ≡ append (written given.1.0.now 0) (texts.contents given.0.now))
contents = record { takes = λ lent given. tt; ends = code.contents.Met.met; tells = λ lent given r later e. e }

pub whole-contents : Entry code.whole_contents.Reads.Asked code.whole_contents.Reads.Learnt code.whole_contents.Statement.statement (λ given r later. written later.1.0.now r ≡ starts_with given.1.0.now (texts.contents given.0.now))
whole-contents = record { takes = λ lent given. tt; ends = code.whole_contents.Met.met; tells = λ lent given r later e. e }
