-- Any two answers that the contracts of `read`, `read_data` and `unpack` allow are one answer, and so are the rows.
-- Assumes nothing.
use Prim.Native.Nat.{ℕ}
use mathlib.Core.Path.{◌≡◌, refl, sym, ◌∙◌}
use mathlib.Core.List.{List}
use lib.ListN.{get_or}
use Rattle.layout.specs.Fields.{Value, none, whole_in, natural_in}
use Rattle.layout.specs.Outcomes.{Outcome, told}
use Rattle.layout.proofs.Untold.{told_back, one_answer}
use Rattle.packing.specs.Section5.{values_in₅, outcome₅}
use Rattle.packing.specs.Section7.{values_in₇, outcome₇}
use Rattle.packing.specs.Unpacking.{written_in, Unpacks}
use Rattle.packing.specs.declared.Packing.{Packing}
use Rattle.packing.specs.declared.DataSection.{DataSection}
use Rattle.layout.specs.declared.Refusal.{Refusal}
use Rattle.std.specs.Prelude.{Result}

-- ---- section 5

-- the record that says these values
unfoldable pub to_packing : List Value → Packing
to_packing vs =
    record {
      length = natural_in (get_or vs 0 none);
      number = natural_in (get_or vs 1 none);
      values = natural_in (get_or vs 2 none);
      template = natural_in (get_or vs 3 none);
      reference = natural_in (get_or vs 4 none);
      binary_scale = whole_in (get_or vs 5 none);
      decimal_scale = whole_in (get_or vs 6 none);
      bits = natural_in (get_or vs 7 none);
      value_type = natural_in (get_or vs 8 none);
    }

pub packing-back : (x : Packing) → to_packing (values_in₅ x) ≡ x
unfolding to_packing values_in₅
packing-back x = refl

-- so two records that say the same are one record
pub same-record₅ : (x y : Packing) → values_in₅ x ≡ values_in₅ y → x ≡ y
same-record₅ = told_back values_in₅ to_packing packing-back

-- and two answers that say the same are one answer
pub determined₅ : (s : List ℕ) (a b : Result Packing Refusal) → told values_in₅ a ≡ outcome₅ s → told values_in₅ b ≡ outcome₅ s → a ≡ b
determined₅ s = one_answer values_in₅ to_packing packing-back (outcome₅ s)

-- ---- section 7

-- the record that says these values
abbrev to_data : List Value → DataSection
to_data vs = record { length = natural_in (get_or vs 0 none); number = natural_in (get_or vs 1 none) }

data-back : (x : DataSection) → to_data (values_in₇ x) ≡ x
unfolding values_in₇
data-back x = refl

pub determined₇ : (n bits : ℕ) (s : List ℕ) (a b : Result DataSection Refusal) → told values_in₇ a ≡ outcome₇ n bits s → told values_in₇ b ≡ outcome₇ n bits s → a ≡ b
determined₇ n bits s = one_answer values_in₇ to_data data-back (outcome₇ n bits s)

-- ---- unpacking

-- two answers that say the same are one answer
same_answer : (o : Outcome) (a b : Result ℕ Refusal) → told written_in a ≡ o → told written_in b ≡ o → a ≡ b
same_answer = one_answer written_in (λ vs. natural_in (get_or vs 0 none)) (λ n. refl)

pub determined : (five seven row : List ℕ) (a b : Result ℕ Refusal) (after later : List ℕ) → Unpacks five seven row a after → Unpacks five seven row b later → (a ≡ b) × (after ≡ later)
determined five seven row a b after later p q = (same_answer _ a b p.answers q.answers, p.leaves ∙ sym q.leaves)
