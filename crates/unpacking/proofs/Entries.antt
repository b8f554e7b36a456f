-- What is said of each public entry: it takes every input, it ends, and so much its contract says (`Entry`, of the crate `entry`).
-- Assumes nothing.
use mathlib.Core.Path.{◌≡◌}
use Rattle.unpacking.specs.Filled.{filled}
use Rattle.entry.specs.Entry.{Entry}
use Rattle.unpacking.proofs as code

pub unpack-bits : Entry code.bits.unpack_bits.Reads.Asked code.bits.unpack_bits.Reads.Learnt code.bits.unpack_bits.Statement.statement (λ given r later. later.1.1.0.now ≡ filled given.1.0 given.0.now given.1.1.0.now)
unpack-bits = record { takes = λ lent given. tt; ends = code.bits.unpack_bits.Met.met; tells = λ lent given r later e. e }

pub unpack-octets : Entry code.carrying.unpack_octets.Reads.Asked code.carrying.unpack_octets.Reads.Learnt code.carrying.unpack_octets.Statement.statement (λ given r later. later.1.1.0.now ≡ filled given.1.0 given.0.now given.1.1.0.now)
unpack-octets = record { takes = λ lent given. tt; ends = code.carrying.unpack_octets.Met.met; tells = λ lent given r later e. e }

pub unpack-eights : Entry code.eights.unpack_eights.Reads.Asked code.eights.unpack_eights.Reads.Learnt code.eights.unpack_eights.Statement.statement (λ given r later. later.1.1.0.now ≡ filled given.1.0 given.0.now given.1.1.0.now)
unpack-eights = record { takes = λ lent given. tt; ends = code.eights.unpack_eights.Met.met; tells = λ lent given r later e. e }

pub unpack : Entry code.unpack.Reads.Asked code.unpack.Reads.Learnt code.unpack.Statement.statement (λ given r later. later.1.1.0.now ≡ filled given.1.0 given.0.now given.1.1.0.now)
unpack = record { takes = λ lent given. tt; ends = code.unpack.Met.met; tells = λ lent given r later e. e }
