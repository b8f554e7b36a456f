-- The fields of sections 5 and 7 stand where document 01 has them and cover every octet once, whatever N and the bits are, and however long
-- a section 7 alone is.
-- Assumes nothing.
use Prim.Native.Nat.{ℕ, ◌+◌, ◌*◌, ◌≤◌, ◌<◌}
use native.Mathlib.Omega.{arith}
use mathlib.Core.Path.{◌≡◌, refl, sym, ◌∙◌}
use mathlib.Core.List.{List}
use lib.ListN.{length}
use Rattle.layout.specs.Fields.{after, runs, placed, width_of, Covered}
use Rattle.layout.proofs.Blocks.{covered}
use Rattle.packing.specs.Section5.{fields₅}
use Rattle.packing.specs.Section7.{packed_octets, fields₇alone, fields₇}
use Rattle.packing.specs.Accepted.{octets₅, octets₇alone, octets₇}

at_5 : runs (after 0 fields₅) ≡ octets₅
unfolding runs placed fields₅
at_5 = refl

at_7 : (rest : ℕ) → runs (after 0 (fields₇alone rest)) ≡ octets₇alone rest
unfolding runs placed fields₇alone
at_7 rest = refl

pub covered₅ : (s : List ℕ) → length s ≡ 21 → Covered (after 0 fields₅) octets₅ s
unfolding width_of fields₅
covered₅ s e = covered fields₅ octets₅ s at_5 e

pub covered₇alone : (rest : ℕ) (s : List ℕ) → length s ≡ 5 + rest → Covered (after 0 (fields₇alone rest)) (octets₇alone rest) s
unfolding width_of fields₇alone
covered₇alone rest s e = covered (fields₇alone rest) (octets₇alone rest) s (at_7 rest) (e ∙ sym total-is)
  where
    total-is : width_of (fields₇alone rest) ≡ 5 + rest
    total-is = omega arith

pub covered₇ : (n bits : ℕ) (s : List ℕ) → length s ≡ 5 + packed_octets n bits → Covered (after 0 (fields₇ n bits)) (octets₇ n bits) s
covered₇ n bits s e = covered₇alone (packed_octets n bits) s e

-- N x bits / 8 rounded up: so many octets have all N x bits bits, and fewer than 8 bits beside them
pub packed-rounded-up : (n bits : ℕ) → (n * bits ≤ 8 * packed_octets n bits) × (8 * packed_octets n bits < n * bits + 8)
packed-rounded-up n bits = (omega arith, omega arith)
