-- What is said of each public entry: it takes every input, it ends, and so much its contract says (`Entry`, of the crate `entry`).
-- Assumes nothing.
use mathlib.Core.Path.{◌≡◌}
use lib.ListN.{take, drop}
use mathlib.Core.List.{not-mem-nil}
use native.Mathlib.Omega.{arith}
use Prim.Native.Nat.{ℕ, ◌<◌, ◌^◌}
use mir.Syntax.{w64}
use mir.Val.{Fits}
use Rattle.octets.specs.Octets.{part, be_at, sign_of, real_year}
use Rattle.entry.specs.Entry.{Entry}
use Rattle.octets.proofs as code

-- of every count that an array can have
pub part-at : (n : ℕ) (fits : Fits w64 n) → n < 2 ^ 63 → Entry (code.part_at.Reads.Asked n fits) (code.part_at.Reads.Learnt n fits) code.part_at.Statement.statement (λ given r later. r ≡ part given.0.now given.1.0 n)
part-at n fits small = record { takes = λ lent given. ((λ a there. absurd (not-mem-nil there)), omega (arith, small)); ends = code.part_at.Met.met; tells = λ lent given r later e. e }

pub u8-at : Entry code.u8_at.Reads.Asked code.u8_at.Reads.Learnt code.u8_at.Statement.statement (λ given r later. r ≡ be_at given.0.now given.1.0 1)
u8-at = record { takes = λ lent given. tt; ends = code.u8_at.Met.met; tells = λ lent given r later e. e }

pub u16-at : Entry code.u16_at.Reads.Asked code.u16_at.Reads.Learnt code.u16_at.Statement.statement (λ given r later. r ≡ be_at given.0.now given.1.0 2)
u16-at = record { takes = λ lent given. tt; ends = code.u16_at.Met.met; tells = λ lent given r later e. e }

pub u32-at : Entry code.u32_at.Reads.Asked code.u32_at.Reads.Learnt code.u32_at.Statement.statement (λ given r later. r ≡ be_at given.0.now given.1.0 4)
u32-at = record { takes = λ lent given. tt; ends = code.u32_at.Met.met; tells = λ lent given r later e. e }

pub u64-at : Entry code.u64_at.Reads.Asked code.u64_at.Reads.Learnt code.u64_at.Statement.statement (λ given r later. r ≡ be_at given.0.now given.1.0 8)
u64-at = record { takes = λ lent given. tt; ends = code.u64_at.Met.met; tells = λ lent given r later e. e }

pub signed8 : Entry code.signed8.Reads.Asked code.signed8.Reads.Learnt code.signed8.Statement.statement (λ given r later. r ≡ sign_of 1 given.0)
signed8 = record { takes = λ lent given. tt; ends = code.signed8.Met.met; tells = λ lent given r later e. e }

pub signed16 : Entry code.signed16.Reads.Asked code.signed16.Reads.Learnt code.signed16.Statement.statement (λ given r later. r ≡ sign_of 2 given.0)
signed16 = record { takes = λ lent given. tt; ends = code.signed16.Met.met; tells = λ lent given r later e. e }

pub signed32 : Entry code.signed32.Reads.Asked code.signed32.Reads.Learnt code.signed32.Statement.statement (λ given r later. r ≡ sign_of 4 given.0)
signed32 = record { takes = λ lent given. tt; ends = code.signed32.Met.met; tells = λ lent given r later e. e }

pub signed16-at : Entry code.signed16_at.Reads.Asked code.signed16_at.Reads.Learnt code.signed16_at.Statement.statement (λ given r later. r ≡ sign_of 2 (be_at given.0.now given.1.0 2))
signed16-at = record { takes = λ lent given. tt; ends = code.signed16_at.Met.met; tells = λ lent given r later e. e }

pub signed32-at : Entry code.signed32_at.Reads.Asked code.signed32_at.Reads.Learnt code.signed32_at.Statement.statement (λ given r later. r ≡ sign_of 4 (be_at given.0.now given.1.0 4))
signed32-at = record { takes = λ lent given. tt; ends = code.signed32_at.Met.met; tells = λ lent given r later e. e }

pub real-year : Entry code.real_year.Reads.Asked code.real_year.Reads.Learnt code.real_year.Statement.statement (λ given r later. r ≡ real_year (sign_of 2 given.0) (sign_of 2 given.1.0))
real-year = record { takes = λ lent given. tt; ends = code.real_year.Met.met; tells = λ lent given r later e. e }

pub part-after : Entry code.part_after.Reads.Asked code.part_after.Reads.Learnt code.part_after.Statement.statement (λ given r later. r.now ≡ take given.1.1.0 (drop given.1.0 given.0.now))
part-after = record { takes = λ lent given. tt; ends = code.part_after.Met.met; tells = λ lent given r later e. e }
