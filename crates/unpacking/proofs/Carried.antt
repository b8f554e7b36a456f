-- The laws of a run that carries: an octet in, and a number out.
-- Assumes nothing.
use mathlib.Core.Path.{◌≡◌, refl}
use mathlib.Core.List.{List}
use Prim.Native.Nat.{ℕ, ◌+◌, ◌-◌, ◌*◌, ◌/◌, ◌%◌, ◌^◌, ◌≤◌, ◌<◌}
use native.Mathlib.Omega.{arith}
use lib.ListN.{get_or}
use lib.Pow.{pow_pos}
use Rattle.unpacking.specs.Packed.{bits_from}
use Rattle.unpacking.specs.Standing.{Holds}
use Rattle.unpacking.proofs.Runs.{octet-more, first-bits, last-bits, bits_under}

-- before the first number nothing is held
pub begins : (xs : List ℕ) (taken held left : ℕ) → taken ≡ 0 → held ≡ 0 → left ≡ 0 → Holds xs taken held left
unfolding bits_from
begins xs taken held left t h l = record { within = omega arith; value = rw (h, l) refl }

-- ---- an octet in

pub octet_in : (xs : List ℕ) (taken held left octet : ℕ) → Holds xs taken held left → octet ≡ get_or xs taken 0 → octet < 256 → Holds xs (taken + 1) (held * 256 + octet) (left + 8)
octet_in xs taken held left octet h e o =
    let same : 8 * (taken + 1) - (left + 8) ≡ 8 * taken - left = omega arith in
    let ends : 8 * taken - left + left ≡ 8 * taken = omega (arith, h.within) in
    record {
      within = omega (arith, h.within);
      value = rw (same, octet-more xs (8 * taken - left) left taken ends (rw e at o), ← e, ← h.value);
    }

-- what is held before it fits, with the octet, into 40 bits
pub held_fits : (xs : List ℕ) (taken held left : ℕ) → Holds xs taken held left → left ≤ 32 → held < 2 ^ 32
held_fits xs taken held left h l = omega (arith, h.value, bits_under xs (8 * taken - left) left 32 l)

-- ---- a number out: `weight` parts its bits from those behind it

module _ (xs : List ℕ) (taken held left bits weight : ℕ) (h : Holds xs taken held left) (enough : bits ≤ left) (power : weight ≡ 2 ^ (left - bits)) where
  all-bits : held ≡ bits_from xs (8 * taken - left) (bits + (left - bits))
  all-bits =
      let e : bits + (left - bits) ≡ left = omega arith in
      rw e h.value

  pub number_out : held / weight ≡ bits_from xs (8 * taken - left) bits
  number_out = rw (power, all-bits) (first-bits xs (8 * taken - left) bits (left - bits))

  pub rest_place : 8 * taken - (left - bits) ≡ 8 * taken - left + bits
  rest_place = omega (arith, h.within)

  pub rest_held : Holds xs taken (held % weight) (left - bits)
  rest_held =
      record {
        within = omega (arith, h.within);
        value = rw (power, all-bits, rest_place) (last-bits xs (8 * taken - left) bits (left - bits));
      }

  pub weight_positive : 0 < weight
  weight_positive = rw power (pow_pos (left - bits))

  -- a place has room for it
  pub number_fits : bits ≤ 32 → held / weight < 2 ^ 32
  number_fits l = rw number_out (bits_under xs (8 * taken - left) bits 32 l)

-- what a step stands on
pub ruleset carried = (octet_in, held_fits, number_out, rest_place, rest_held, weight_positive, number_fits)
