-- The entries over a width at each of the three: `u8`, `u16` and `u32` have one, two and four octets, so that what is said of every width says it of these.
-- Assumes nothing.
use mathlib.Core.Path.{◌≡◌, refl}
use mathlib.Core.List.{not-mem-nil}
use mir.Syntax.{w8, w16, w32}
use denote.Plain.{UInt}
use denote.Param.Laws.{Laws, of_field}
use denote.Param.Shared.{copy_shared}
use denote.Struct.Field.{u8-field, u16-field, u32-field}
use denote.Struct.Laws.{u8-laws, u8-copy, u16-laws, u16-copy, u32-laws, u32-copy}
use Rattle.octets.specs.Octets.{be_at}
use Rattle.layout.specs.Fields.{not_ones, not_zero, unsigned, signed, or_missing, means}
use Rattle.layout.specs.Outcomes.{if_allowed}
use Rattle.layout.specs.Missing.{in32, in_signed}
use Rattle.layout.specs.contracts.U8Width.TheImpl as u8
use Rattle.layout.specs.contracts.U16Width.TheImpl as u16
use Rattle.layout.specs.contracts.U32Width.TheImpl as u32
use Rattle.entry.specs.Entry.{Entry}
use Rattle.layout.proofs as code

pub lawful8 : Laws (UInt w8)
lawful8 = of_field u8-field u8-laws refl (copy_shared u8-field u8-copy)

pub lawful16 : Laws (UInt w16)
lawful16 = of_field u16-field u16-laws refl (copy_shared u16-field u16-copy)

pub lawful32 : Laws (UInt w32)
lawful32 = of_field u32-field u32-laws refl (copy_shared u32-field u32-copy)

pub u8-or-missing : Entry (code.or_missing.Reads.Asked (UInt w8) lawful8 u8.ghosts u8.dict) (code.or_missing.Reads.Learnt (UInt w8) lawful8 u8.ghosts u8.dict) code.or_missing.Statement.statement (λ given r later. in32 r ≡ means (or_missing unsigned) 1 (be_at given.0.now given.1.0 1))
u8-or-missing = record { takes = λ lent given a there. absurd (not-mem-nil there); ends = code.or_missing.Met.met; tells = λ lent given r later e. e }

pub u16-or-missing : Entry (code.or_missing.Reads.Asked (UInt w16) lawful16 u16.ghosts u16.dict) (code.or_missing.Reads.Learnt (UInt w16) lawful16 u16.ghosts u16.dict) code.or_missing.Statement.statement (λ given r later. in32 r ≡ means (or_missing unsigned) 2 (be_at given.0.now given.1.0 2))
u16-or-missing = record { takes = λ lent given a there. absurd (not-mem-nil there); ends = code.or_missing.Met.met; tells = λ lent given r later e. e }

pub u32-or-missing : Entry (code.or_missing.Reads.Asked (UInt w32) lawful32 u32.ghosts u32.dict) (code.or_missing.Reads.Learnt (UInt w32) lawful32 u32.ghosts u32.dict) code.or_missing.Statement.statement (λ given r later. in32 r ≡ means (or_missing unsigned) 4 (be_at given.0.now given.1.0 4))
u32-or-missing = record { takes = λ lent given a there. absurd (not-mem-nil there); ends = code.or_missing.Met.met; tells = λ lent given r later e. e }

pub signed8-or-missing : Entry (code.signed_or_missing.Reads.Asked (UInt w8) lawful8 u8.ghosts u8.dict) (code.signed_or_missing.Reads.Learnt (UInt w8) lawful8 u8.ghosts u8.dict) code.signed_or_missing.Statement.statement (λ given r later. in_signed r ≡ means (or_missing signed) 1 (be_at given.0.now given.1.0 1))
signed8-or-missing = record { takes = λ lent given a there. absurd (not-mem-nil there); ends = code.signed_or_missing.Met.met; tells = λ lent given r later e. e }

pub signed16-or-missing : Entry (code.signed_or_missing.Reads.Asked (UInt w16) lawful16 u16.ghosts u16.dict) (code.signed_or_missing.Reads.Learnt (UInt w16) lawful16 u16.ghosts u16.dict) code.signed_or_missing.Statement.statement (λ given r later. in_signed r ≡ means (or_missing signed) 2 (be_at given.0.now given.1.0 2))
signed16-or-missing = record { takes = λ lent given a there. absurd (not-mem-nil there); ends = code.signed_or_missing.Met.met; tells = λ lent given r later e. e }

pub signed32-or-missing : Entry (code.signed_or_missing.Reads.Asked (UInt w32) lawful32 u32.ghosts u32.dict) (code.signed_or_missing.Reads.Learnt (UInt w32) lawful32 u32.ghosts u32.dict) code.signed_or_missing.Statement.statement (λ given r later. in_signed r ≡ means (or_missing signed) 4 (be_at given.0.now given.1.0 4))
signed32-or-missing = record { takes = λ lent given a there. absurd (not-mem-nil there); ends = code.signed_or_missing.Met.met; tells = λ lent given r later e. e }

pub present8 : Entry (code.check_present.Reads.Asked (UInt w8) lawful8 u8.ghosts u8.dict) (code.check_present.Reads.Learnt (UInt w8) lawful8 u8.ghosts u8.dict) code.check_present.Statement.statement (λ given r later. r ≡ if_allowed given.1.0 given.1.1.0 (not_ones 1 (be_at given.0.now given.1.1.0 1)))
present8 = record { takes = λ lent given a there. absurd (not-mem-nil there); ends = code.check_present.Met.met; tells = λ lent given r later e. e }

pub present16 : Entry (code.check_present.Reads.Asked (UInt w16) lawful16 u16.ghosts u16.dict) (code.check_present.Reads.Learnt (UInt w16) lawful16 u16.ghosts u16.dict) code.check_present.Statement.statement (λ given r later. r ≡ if_allowed given.1.0 given.1.1.0 (not_ones 2 (be_at given.0.now given.1.1.0 2)))
present16 = record { takes = λ lent given a there. absurd (not-mem-nil there); ends = code.check_present.Met.met; tells = λ lent given r later e. e }

pub present32 : Entry (code.check_present.Reads.Asked (UInt w32) lawful32 u32.ghosts u32.dict) (code.check_present.Reads.Learnt (UInt w32) lawful32 u32.ghosts u32.dict) code.check_present.Statement.statement (λ given r later. r ≡ if_allowed given.1.0 given.1.1.0 (not_ones 4 (be_at given.0.now given.1.1.0 4)))
present32 = record { takes = λ lent given a there. absurd (not-mem-nil there); ends = code.check_present.Met.met; tells = λ lent given r later e. e }

pub nonzero8 : Entry (code.check_nonzero.Reads.Asked (UInt w8) lawful8 u8.ghosts u8.dict) (code.check_nonzero.Reads.Learnt (UInt w8) lawful8 u8.ghosts u8.dict) code.check_nonzero.Statement.statement (λ given r later. r ≡ if_allowed given.1.0 given.1.1.0 (not_zero (be_at given.0.now given.1.1.0 1)))
nonzero8 = record { takes = λ lent given a there. absurd (not-mem-nil there); ends = code.check_nonzero.Met.met; tells = λ lent given r later e. e }

pub nonzero16 : Entry (code.check_nonzero.Reads.Asked (UInt w16) lawful16 u16.ghosts u16.dict) (code.check_nonzero.Reads.Learnt (UInt w16) lawful16 u16.ghosts u16.dict) code.check_nonzero.Statement.statement (λ given r later. r ≡ if_allowed given.1.0 given.1.1.0 (not_zero (be_at given.0.now given.1.1.0 2)))
nonzero16 = record { takes = λ lent given a there. absurd (not-mem-nil there); ends = code.check_nonzero.Met.met; tells = λ lent given r later e. e }

pub nonzero32 : Entry (code.check_nonzero.Reads.Asked (UInt w32) lawful32 u32.ghosts u32.dict) (code.check_nonzero.Reads.Learnt (UInt w32) lawful32 u32.ghosts u32.dict) code.check_nonzero.Statement.statement (λ given r later. r ≡ if_allowed given.1.0 given.1.1.0 (not_zero (be_at given.0.now given.1.1.0 4)))
nonzero32 = record { takes = λ lent given a there. absurd (not-mem-nil there); ends = code.check_nonzero.Met.met; tells = λ lent given r later e. e }
