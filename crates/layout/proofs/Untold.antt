-- From values back to the numbers of a record that say them: what is told of an answer shows the whole of it.
-- Assumes nothing.
use mathlib.Core.Path.{◌≡◌, refl, ap, sym, ◌∙◌}
use mathlib.Core.List.{List}
use mathlib.Core.Bool.{Bool, true, false, cond}
use Prim.Native.Nat.{ℕ, ◌+◌}
use lib.Dec.{eqb}
use lib.ListN.{get_or}
use lib.IntN.{nat_abs}
use Rattle.octets.specs.Octets.{sign_of, all_ones}
use Rattle.layout.specs.Fields.{Value, none, missing, is, which, plain, natural_in, means, unsigned, signed, or_missing}
use Rattle.layout.specs.Missing.{in32, in_signed, unless_missing, signed_unless_missing}
use Rattle.layout.specs.Outcomes.{Outcome, refused, read, refusal, told}
use Rattle.layout.specs.Time.{time_in}
use Rattle.layout.specs.declared.Refusal.{Refusal}
use Rattle.layout.specs.declared.Time.{Time}
use Rattle.std.specs.Prelude.{ℤ, Option, Some, None, Result, Ok, Err}

-- one that may be missing
abbrev pub to32 : Value → Option ℕ
to32 none = None
to32 missing = None
to32 (is z) = Some (nat_abs z)
to32 (which n) = None

pub back32 : (x : Option ℕ) → to32 (in32 x) ≡ x
back32 None = refl
back32 (Some n) = refl

abbrev pub to_signed : Value → Option ℤ
to_signed none = None
to_signed missing = None
to_signed (is z) = Some z
to_signed (which n) = None

pub back_signed : (x : Option ℤ) → to_signed (in_signed x) ≡ x
back_signed None = refl
back_signed (Some z) = refl

-- ---- which number octets say that may be missing

pub means32 : (width x : ℕ) → to32 (means (or_missing unsigned) width x) ≡ unless_missing width x
means32 width x = by (eqb x (all_ones width))
  where
    by : (t : Bool) → to32 (cond t missing (plain x)) ≡ cond t None (Some x)
    by true = refl
    by false = refl

pub means_signed : (width x : ℕ) → to_signed (means (or_missing signed) width x) ≡ signed_unless_missing width x
means_signed width x = by (eqb x (all_ones width))
  where
    by : (t : Bool) → to_signed (cond t missing (is (sign_of width x))) ≡ cond t None (Some (sign_of width x))
    by true = refl
    by false = refl

-- ---- so equal values are of equal answers

-- whatever can be told back
pub told_back : {A B : Type 0} (tell : A → B) (back : B → A) → ((a : A) → back (tell a) ≡ a) → (a b : A) → tell a ≡ tell b → a ≡ b
told_back tell back h a b e = sym (h a) ∙ ap back e ∙ h b

pub same32 : (x y : Option ℕ) → in32 x ≡ in32 y → x ≡ y
same32 = told_back in32 to32 back32

pub same_signed : (x y : Option ℤ) → in_signed x ≡ in_signed y → x ≡ y
same_signed = told_back in_signed to_signed back_signed

-- the five fields of a time, which stand from index `k` on among the values of a record
abbrev pub to_time : List Value → ℕ → Time
to_time vs k =
    record {
      month = natural_in (get_or vs k none);
      day = natural_in (get_or vs (k + 1) none);
      hour = natural_in (get_or vs (k + 2) none);
      minute = natural_in (get_or vs (k + 3) none);
      second = natural_in (get_or vs (k + 4) none);
    }

pub same_time : (x y : Time) → time_in x ≡ time_in y → x ≡ y
unfolding time_in
same_time = told_back time_in (λ vs. to_time vs 0) (λ x. refl)

-- ---- the answer that an outcome is of: one that refuses, or one that reads the record that says these values

abbrev pub untold : {A : Type 0} → (List Value → A) → Outcome → Result A Refusal
untold to_record (refused n s p) = Err (refusal n s p)
untold to_record (read vs) = Ok (to_record vs)

pub back_told : {A : Type 0} (values : A → List Value) (to_record : List Value → A) → ((a : A) → to_record (values a) ≡ a) → (r : Result A Refusal) → untold to_record (told values r) ≡ r
back_told values to_record back (Err x) = refl
back_told values to_record back (Ok a) = ap Ok (back a)

-- where each record is had back from its values, two answers that say one outcome are one answer
pub one_answer : {A : Type 0} (values : A → List Value) (to_record : List Value → A) → ((a : A) → to_record (values a) ≡ a) → (o : Outcome) (a b : Result A Refusal) → told values a ≡ o → told values b ≡ o → a ≡ b
one_answer values to_record back o a b p q = told_back (told values) (untold to_record) (back_told values to_record back) a b (p ∙ sym q)
