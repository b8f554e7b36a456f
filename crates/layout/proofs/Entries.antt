-- What is said of each public entry: it takes every input, it ends, and so much its contract says (`Entry`, of the crate `entry`).
-- Assumes nothing.

-- of the entries over a width at each of the three, with its number of octets
pub use Rattle.layout.proofs.AtEachWidth.{u8-or-missing, u16-or-missing, u32-or-missing, signed8-or-missing, signed16-or-missing, signed32-or-missing, present8, present16, present32, nonzero8, nonzero16, nonzero32}
use mathlib.Core.Path.{◌≡◌}
use mathlib.Core.List.{Mem}
use Prim.Native.Nat.{ℕ}
use Rattle.octets.specs.Octets.{be_at}
use Rattle.layout.specs.Fields.{between, not_ones, not_zero, unsigned, or_missing, means, signed, after, values_of}
use Rattle.layout.specs.Outcomes.{refusal, head_reasons, first_refusal, opening_reasons, total_reasons, if_allowed, all_allowed}
use Rattle.layout.specs.Missing.{in32, in_signed}
use Rattle.layout.specs.Time.{time, time_in}
use Rattle.layout.specs.Spans.{span_after, octets_in}
use Rattle.layout.specs.declared.Width.{Ghosts}
use denote.RattleType.{RattleType}
use denote.Param.Laws.{Laws}
use mir.Syntax.{Dict}
use Rattle.entry.specs.Entry.{Entry}
use Rattle.layout.proofs as code

pub refusal-of : Entry code.Refusal.of.Reads.Asked code.Refusal.of.Reads.Learnt code.Refusal.of.Statement.statement (λ given r later. r ≡ refusal given.0 given.1.0 0)
refusal-of = record { takes = λ lent given. tt; ends = code.Refusal.of.Met.met; tells = λ lent given r later e. e }

pub refusal-at : Entry code.Refusal.at.Reads.Asked code.Refusal.at.Reads.Learnt code.Refusal.at.Statement.statement (λ given r later. r ≡ refusal given.0 given.1.0 given.1.1.0)
refusal-at = record { takes = λ lent given. tt; ends = code.Refusal.at.Met.met; tells = λ lent given r later e. e }

pub check-head : Entry code.check_head.Reads.Asked code.check_head.Reads.Learnt code.check_head.Statement.statement (λ given r later. r ≡ first_refusal given.1.0 (head_reasons given.1.0 given.0.now))
check-head = record { takes = λ lent given. tt; ends = code.check_head.Met.met; tells = λ lent given r later e. e }

pub check-opening : Entry code.check_opening.Reads.Asked code.check_opening.Reads.Learnt code.check_opening.Statement.statement (λ given r later. r ≡ first_refusal given.1.0 (opening_reasons given.1.0 given.1.1.0 given.0.now))
check-opening = record { takes = λ lent given. tt; ends = code.check_opening.Met.met; tells = λ lent given r later e. e }

pub check-total : Entry code.check_total.Reads.Asked code.check_total.Reads.Learnt code.check_total.Statement.statement (λ given r later. r ≡ first_refusal given.1.0 (total_reasons given.1.1.0 given.0.now))
check-total = record { takes = λ lent given. tt; ends = code.check_total.Met.met; tells = λ lent given r later e. e }

-- of every width, a type that lends nothing

pub or-missing : (T : RattleType) (laws : Laws T) (w : Ghosts T.Denot) (dict : Dict) → ((a : ℕ) → Mem a T.lives → ⊥) → Entry (code.or_missing.Reads.Asked T laws w dict) (code.or_missing.Reads.Learnt T laws w dict) code.or_missing.Statement.statement (λ given r later. in32 r ≡ means (or_missing unsigned) w.OCTETS (be_at given.0.now given.1.0 w.OCTETS))
or-missing T laws w dict free = record { takes = λ lent given a there. absurd (free a there); ends = code.or_missing.Met.met; tells = λ lent given r later e. e }

pub signed-or-missing : (T : RattleType) (laws : Laws T) (w : Ghosts T.Denot) (dict : Dict) → ((a : ℕ) → Mem a T.lives → ⊥) → Entry (code.signed_or_missing.Reads.Asked T laws w dict) (code.signed_or_missing.Reads.Learnt T laws w dict) code.signed_or_missing.Statement.statement (λ given r later. in_signed r ≡ means (or_missing signed) w.OCTETS (be_at given.0.now given.1.0 w.OCTETS))
signed-or-missing T laws w dict free = record { takes = λ lent given a there. absurd (free a there); ends = code.signed_or_missing.Met.met; tells = λ lent given r later e. e }

pub check-present : (T : RattleType) (laws : Laws T) (w : Ghosts T.Denot) (dict : Dict) → ((a : ℕ) → Mem a T.lives → ⊥) → Entry (code.check_present.Reads.Asked T laws w dict) (code.check_present.Reads.Learnt T laws w dict) code.check_present.Statement.statement (λ given r later. r ≡ if_allowed given.1.0 given.1.1.0 (not_ones w.OCTETS (be_at given.0.now given.1.1.0 w.OCTETS)))
check-present T laws w dict free = record { takes = λ lent given a there. absurd (free a there); ends = code.check_present.Met.met; tells = λ lent given r later e. e }

pub check-nonzero : (T : RattleType) (laws : Laws T) (w : Ghosts T.Denot) (dict : Dict) → ((a : ℕ) → Mem a T.lives → ⊥) → Entry (code.check_nonzero.Reads.Asked T laws w dict) (code.check_nonzero.Reads.Learnt T laws w dict) code.check_nonzero.Statement.statement (λ given r later. r ≡ if_allowed given.1.0 given.1.1.0 (not_zero (be_at given.0.now given.1.1.0 w.OCTETS)))
check-nonzero T laws w dict free = record { takes = λ lent given a there. absurd (free a there); ends = code.check_nonzero.Met.met; tells = λ lent given r later e. e }

-- and the others

pub check-within : Entry code.check_within.Reads.Asked code.check_within.Reads.Learnt code.check_within.Statement.statement (λ given r later. r ≡ if_allowed given.1.0 given.1.1.0 (between given.1.1.1.0 given.1.1.1.1.0 (be_at given.0.now given.1.1.0 1)))
check-within = record { takes = λ lent given. tt; ends = code.check_within.Met.met; tells = λ lent given r later e. e }

pub read-time : Entry code.read_time.Reads.Asked code.read_time.Reads.Learnt code.read_time.Statement.statement (λ given r later. time_in r ≡ values_of (after given.1.0 time) given.0.now)
read-time = record { takes = λ lent given. tt; ends = code.read_time.Met.met; tells = λ lent given r later e. e }

pub check-time : Entry code.check_time.Reads.Asked code.check_time.Reads.Learnt code.check_time.Statement.statement (λ given r later. r ≡ all_allowed given.1.0 (after given.1.1.0 time) given.0.now)
check-time = record { takes = λ lent given. tt; ends = code.check_time.Met.met; tells = λ lent given r later e. e }

pub span-after : Entry code.Span.after.Reads.Asked code.Span.after.Reads.Learnt code.Span.after.Statement.statement (λ given r later. r ≡ span_after given.0 given.1.0)
span-after = record { takes = λ lent given. tt; ends = code.Span.after.Met.met; tells = λ lent given r later e. e }

pub span-of : Entry code.Span.of.Reads.Asked code.Span.of.Reads.Learnt code.Span.of.Statement.statement (λ given r later. r.now ≡ octets_in given.0 given.1.0.now)
span-of = record { takes = λ lent given. tt; ends = code.Span.of.Met.met; tells = λ lent given r later e. e }
