-- What is said of each public entry: it takes every input, it ends, and so much its contract says (`Entry`, of the crate `entry`).
-- Assumes nothing.
use mathlib.Core.Path.{◌≡◌}
use lib.ListN.{length, replicate}
use Rattle.lent.specs.Written.{written, append, starts_with}
use Rattle.report.specs.Texts as texts
use Rattle.entry.specs.Entry.{Entry}
use Rattle.report.proofs as code

pub queue-buffer : Entry code.queue_buffer.Reads.Asked code.queue_buffer.Reads.Learnt code.queue_buffer.Statement.statement (λ given r later. (r ≡ replicate 65537 0) × (65537 ≡ length r))
queue-buffer = record { takes = λ lent given. tt; ends = code.queue_buffer.Met.met; tells = λ lent given r later e. e }

pub listing-buffer : Entry code.listing_buffer.Reads.Asked code.listing_buffer.Reads.Learnt code.listing_buffer.Statement.statement (λ given r later. (r ≡ replicate 16384 0) × (16384 ≡ length r))
listing-buffer = record { takes = λ lent given. tt; ends = code.listing_buffer.Met.met; tells = λ lent given r later e. e }

pub explanation-buffer : Entry code.explanation_buffer.Reads.Asked code.explanation_buffer.Reads.Learnt code.explanation_buffer.Statement.statement (λ given r later. (r ≡ replicate 2163200 0) × (2163200 ≡ length r))
explanation-buffer = record { takes = λ lent given. tt; ends = code.explanation_buffer.Met.met; tells = λ lent given r later e. e }

pub listing : Entry code.listing.Reads.Asked code.listing.Reads.Learnt code.listing.Statement.statement (λ given r later. written later.1.0.now r ≡ append (written given.1.0.now 0) (texts.listing given.0.now))
listing = record { takes = λ lent given. tt; ends = code.listing.Met.met; tells = λ lent given r later e. e }

pub explanation : Entry code.explanation.Reads.Asked code.explanation.Reads.Learnt code.explanation.Statement.statement (λ given r later. written later.1.0.now r ≡ append (written given.1.0.now 0) (texts.explanation given.0.now))
explanation = record { takes = λ lent given. tt; ends = code.explanation.Met.met; tells = λ lent given r later e. e }

pub whole-listing : Entry code.whole_listing.Reads.Asked code.whole_listing.Reads.Learnt code.whole_listing.Statement.statement (λ given r later. written later.1.0.now r ≡ starts_with given.1.0.now (texts.listing given.0.now))
whole-listing = record { takes = λ lent given. tt; ends = code.whole_listing.Met.met; tells = λ lent given r later e. e }

pub whole-explanation : Entry code.whole_explanation.Reads.Asked code.whole_explanation.Reads.Learnt code.whole_explanation.Statement.statement (λ given r later. written later.1.0.now r ≡ starts_with given.1.0.now (texts.explanation given.0.now))
whole-explanation = record { takes = λ lent given. tt; ends = code.whole_explanation.Met.met; tells = λ lent given r later e. e }
