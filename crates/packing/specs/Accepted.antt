-- What it means that sections 5 and 7 follow their templates and keep the value rules, in plain words.
-- Assumes nothing.
use Rattle.std.specs.Prelude.{ℕ, ◌+◌, ◌≤◌, ◌≡◌, List, [], ◌∷◌, length}
use Rattle.octets.specs.Octets.{be_at}
use Rattle.layout.specs.Fields.{Run, run}
use Rattle.packing.specs.Section7.{packed_octets}

-- the octets of each field by their numbers: length, number, N, template, R, E, D, bits per value, type
abbrev pub octets₅ : List Run
octets₅ = run 1 4 ∷ run 5 1 ∷ run 6 4 ∷ run 10 2 ∷ run 12 4 ∷ run 16 2 ∷ run 18 2 ∷ run 20 1 ∷ run 21 1 ∷ []

-- 1-4, 5, and so many from octet 6 on
abbrev pub octets₇alone : ℕ → List Run
octets₇alone rest = run 1 4 ∷ run 5 1 ∷ run 6 rest ∷ []

-- 1-4, 5, and the packed values from octet 6 on
abbrev pub octets₇ : ℕ → ℕ → List Run
octets₇ n bits = octets₇alone (packed_octets n bits)

pub record Follows₅ (s : List ℕ) : Type 0 where
  pub whole : length s ≡ 21
  pub says-length : be_at s 1 4 ≡ 21
  pub says-number : be_at s 5 1 ≡ 5
  pub template : be_at s 10 2 ≡ 0
  pub bits : be_at s 20 1 ≤ 32

-- a section 7 alone, of which no section 5 says N and the bits
pub record Follows₇alone (s : List ℕ) : Type 0 where
  pub long : 5 ≤ length s
  pub small : length s ≤ 65536
  pub says-length : be_at s 1 4 ≡ length s
  pub says-number : be_at s 5 1 ≡ 7

-- for N values of `bits` bits: it is as long as they need
pub record Follows₇ (n bits : ℕ) (s : List ℕ) : Type 0 where
  pub alone : Follows₇alone s
  pub whole : length s ≡ 5 + packed_octets n bits
