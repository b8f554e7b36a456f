-- Any two answers that `read`'s contract allows for a section are one answer.
-- Assumes nothing.
use Prim.Native.Nat.{ℕ}
use mathlib.Core.Path.{◌≡◌, refl}
use mathlib.Core.List.{List}
use lib.ListN.{get_or}
use Rattle.layout.specs.Fields.{Value, none, whole_in, natural_in}
use Rattle.layout.specs.Time.{time_in}
use Rattle.layout.specs.Outcomes.{told}
use Rattle.layout.specs.declared.Refusal.{Refusal}
use Rattle.layout.proofs.Untold.{to32, to_signed, to_time, told_back, one_answer}
use Rattle.std.specs.Prelude.{ℤ, Option, Some, None, Result}
use Rattle.identification.specs.Section1.{values_in, number_in, calendar_in, offset_in, outcome₁}
use Rattle.identification.specs.declared.Identification.{Identification}

-- ---- fields that a template may lack

number-back : (x : Option ℕ) → to32 (number_in x) ≡ x
number-back None = refl
number-back (Some n) = refl

calendar-back : (x : Option ℕ) → to32 (calendar_in x) ≡ x
calendar-back None = refl
calendar-back (Some n) = refl

offset-back : (x : Option ℤ) → to_signed (offset_in x) ≡ x
offset-back None = refl
offset-back (Some z) = refl

-- ---- the record that says these values

unfoldable pub to_identification : List Value → Identification
to_identification vs =
    record {
      length = natural_in (get_or vs 0 none);
      number = natural_in (get_or vs 1 none);
      centre = natural_in (get_or vs 2 none);
      sub_centre = natural_in (get_or vs 3 none);
      master_version = natural_in (get_or vs 4 none);
      local_version = natural_in (get_or vs 5 none);
      significance = natural_in (get_or vs 6 none);
      year = whole_in (get_or vs 7 none);
      time = to_time vs 8;
      status = natural_in (get_or vs 13 none);
      data_type = natural_in (get_or vs 14 none);
      template = to32 (get_or vs 15 none);
      calendar = to32 (get_or vs 16 none);
      offset = to_signed (get_or vs 17 none);
      real_year = whole_in (get_or vs 18 none);
    }

pub identification-back : (x : Identification) → to_identification (values_in x) ≡ x
unfolding to_identification values_in time_in
identification-back x =
    λ i. record {
      length = x.length;
      number = x.number;
      centre = x.centre;
      sub_centre = x.sub_centre;
      master_version = x.master_version;
      local_version = x.local_version;
      significance = x.significance;
      year = x.year;
      time = x.time;
      status = x.status;
      data_type = x.data_type;
      template = number-back x.template i;
      calendar = calendar-back x.calendar i;
      offset = offset-back x.offset i;
      real_year = x.real_year;
    }

-- so two records that say the same are one record
pub same-record : (x y : Identification) → values_in x ≡ values_in y → x ≡ y
same-record = told_back values_in to_identification identification-back

-- and two answers that say the same are one answer
pub determined : (s : List ℕ) (a b : Result Identification Refusal) → told values_in a ≡ outcome₁ s → told values_in b ≡ outcome₁ s → a ≡ b
determined s = one_answer values_in to_identification identification-back (outcome₁ s)
