-- What a section's total decides: shorter, longer or whole.
-- Assumes nothing.
use Rattle.std.specs.Prelude.{ℕ, ◌+◌, ◌<◌, ◌≤◌, ◌≡◌, List, length}
use Rattle.octets.specs.Octets.{octet, be_at}
use Rattle.layout.specs.Outcomes.{Outcome, refused, read}

-- no refusal is given that is lower than the total's: the section is read, or refused with 11 or a greater number
abbrev pub NoLower : Outcome → Type 0
NoLower (refused number section place) = 11 ≤ number
NoLower (read vs) = Unit {0}

-- it is refused with this number
abbrev pub RefusedWith : ℕ → Outcome → Type 0
RefusedWith n (refused number section place) = number ≡ n
RefusedWith n (read vs) = ⊥

-- 11 exactly when the section is shorter than its total, and then at the octet behind its last; 21 exactly when it is longer, and then at the
-- first octet beyond the total; accepted, or refused with what is tested later, only when it has its total
pub record ByTotal (section total : ℕ) (s : List ℕ) (o : Outcome) : Type 0 where
  pub shorter : length s < total → o ≡ refused 11 section (length s + 1)
  pub only-shorter : RefusedWith 11 o → length s < total
  pub longer : total < length s → o ≡ refused 21 section (total + 1)
  pub only-longer : RefusedWith 21 o → total < length s
  pub whole : (RefusedWith 11 o → ⊥) → (RefusedWith 21 o → ⊥) → length s ≡ total

-- a section that was clipped, or has got a tail: the second has the octets of the first from octet 5 on, as far as both go, and says in octets 1-4
-- how long it is itself
pub record Resized (s t : List ℕ) : Type 0 where
  pub same : (at : ℕ) → 5 ≤ at → at ≤ length s → at ≤ length t → octet t at ≡ octet s at
  pub says-length : be_at t 1 4 ≡ length t
