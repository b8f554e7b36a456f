-- A refusal of section 5, of section 7 or of unpacking has a number, a section and a place as document 01 has them.
-- Assumes nothing.
use Prim.Native.Nat.{ℕ, ◌≤◌}
use native.Mathlib.Omega.{arith}
use mathlib.Core.Path.{◌≡◌, refl}
use mathlib.Core.List.{List}
use mathlib.Core.Bool.{true, not}
use lib.ListN.{length, drop}
use lib.Dec.{eqb}
use Rattle.octets.specs.Octets.{be_at}
use Rattle.layout.specs.Fields.{placed, after, bad_place}
use Rattle.layout.specs.Outcomes.{told}
use Rattle.layout.specs.Refusals.{Listed}
use Rattle.layout.specs.declared.Refusal.{Refusal}
use Rattle.layout.proofs.Refusals.{Refuses, refusal-listed, refuses-wider, then-refuses, reason-refuses, head-refuses, opening-refuses, template-refuses, stand_within, bad-within}
use Rattle.packing.specs.Section5.{fields₅, values_in₅, outcome₅, as_simple, values_at, bits_at}
use Rattle.packing.specs.Section7.{values_in₇, outcome₇}
use Rattle.packing.specs.Unpacking.{written_in, unpack_outcome}
use Rattle.packing.specs.Refused.{table₅, table₇, unpack_table}
use Rattle.std.specs.Prelude.{Err}

-- the fields with a rule stand within the total
pub within₅ : stand_within 21 (placed 0 5 (drop 1 fields₅)) ≡ true
unfolding stand_within placed fields₅
within₅ = refl

-- so the lowest bad field starts there
bad₅ : (s : List ℕ) → bad_place (after 0 fields₅) s ≤ 21
unfolding fields₅
bad₅ s = bad-within 21 (drop 1 fields₅) s within₅

pub refuses₅ : (s : List ℕ) → Refuses table₅ (outcome₅ s)
unfolding outcome₅ as_simple
refuses₅ s =
    opening-refuses table₅ 5 11 s _ refl
    (λ small. reason-refuses table₅ 5 6 (not (eqb (be_at s 10 2) 0)) (as_simple s) refl refl
    (template-refuses table₅ 5 21 _ 0 21 s _ refl (λ h. absurd (omega (arith, h))) refl refl (bad₅ s) small tt))

pub refuses₇ : (n bits : ℕ) (s : List ℕ) → Refuses table₇ (outcome₇ n bits s)
unfolding outcome₇
refuses₇ n bits s = head-refuses table₇ 7 s _ refl (λ small. reason-refuses table₇ 7 15 _ _ refl refl tt)

pub unpack-refuses : (five seven row : List ℕ) → Refuses unpack_table (unpack_outcome five seven row)
unfolding unpack_outcome
unpack-refuses five seven row =
    then-refuses unpack_table (outcome₅ five) _ (refuses-wider unpack_table table₅ (outcome₅ five) refl (refuses₅ five))
    (then-refuses unpack_table (outcome₇ (values_at five) (bits_at five) seven) _
    (refuses-wider unpack_table table₇ (outcome₇ (values_at five) (bits_at five) seven) refl (refuses₇ (values_at five) (bits_at five) seven))
    (reason-refuses unpack_table 0 18 (not (eqb (length row) (values_at five))) _ refl refl tt))

pub packing-refuses : (s : List ℕ) (x : Refusal) → told values_in₅ (Err x) ≡ outcome₅ s → Listed table₅ x
packing-refuses s x e = refusal-listed table₅ (outcome₅ s) x (refuses₅ s) e

pub data-refuses : (n bits : ℕ) (s : List ℕ) (x : Refusal) → told values_in₇ (Err x) ≡ outcome₇ n bits s → Listed table₇ x
data-refuses n bits s x e = refusal-listed table₇ (outcome₇ n bits s) x (refuses₇ n bits s) e

pub unpacking-refuses : (five seven row : List ℕ) (x : Refusal) → told written_in (Err x) ≡ unpack_outcome five seven row → Listed unpack_table x
unpacking-refuses five seven row x e = refusal-listed unpack_table (unpack_outcome five seven row) x (unpack-refuses five seven row) e
