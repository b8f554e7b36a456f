-- The outcomes of sections 5 and 7 as their readers come to them: one check after the other.
-- Assumes nothing.
use mathlib.Core.Path.{◌≡◌, refl, ◌∙◌}
use mathlib.Core.List.{List}
use mathlib.Core.Bool.{not, cond}
use Prim.Native.Nat.{ℕ, ◌+◌}
use lib.Dec.{eqb, ltb}
use lib.ListN.{length}
use Rattle.octets.specs.Octets.{be_at, sign_of}
use Rattle.layout.specs.Fields.{placed, after, between, values_of}
use Rattle.layout.specs.Outcomes.{refused, read, first_of, first_refusal, and_check, if_allowed, all_allowed, head_reasons, opening_reasons, total_reasons}
use Rattle.layout.proofs.Outcomes.{check_then, first-check, template_checks, check_then_and}
use Rattle.packing.specs.Section5.{fields₅, as_simple, outcome₅, values_in₅}
use Rattle.packing.specs.Section7.{packed_octets, fields₇alone, outcome₇, values_in₇}

-- 1 to 5, 6, 7, 8 at the bits per value, which are all that can be out of range, and the total
pub section5_by_checks : (s : List ℕ) → outcome₅ s ≡ check_then (first_refusal 5 (opening_reasons 5 11 s))
    (cond (not (eqb (be_at s 10 2) 0)) (refused 6 5 0)
    (cond (ltb (length s) 21) (refused 7 5 0)
    (check_then (if_allowed 5 20 (between 0 32 (be_at s 20 1)))
    (check_then (first_refusal 5 (total_reasons 21 s)) (read (values_of (after 0 fields₅) s))))))
unfolding outcome₅ as_simple first_of placed all_allowed and_check fields₅
section5_by_checks s = first-check 5 (opening_reasons 5 11 s) _ ∙ simp (template_checks, check_then_and)

-- 1 to 4, 15; what is read are the first two fields
pub section7_by_checks : (n bits : ℕ) (s : List ℕ) → outcome₇ n bits s ≡ check_then (first_refusal 7 (head_reasons 7 s))
    (cond (not (eqb (length s) (5 + packed_octets n bits))) (refused 15 7 0) (read (values_in₇ (record { length = be_at s 1 4; number = be_at s 5 1 }))))
unfolding outcome₇ first_of values_of placed fields₇alone values_in₇
section7_by_checks n bits s = first-check 7 (head_reasons 7 s) _

-- the values of section 5's fields are those of a record that holds each where it stands
pub section5_values : (s : List ℕ) → values_of (after 0 fields₅) s ≡ values_in₅
    (record {
      length = be_at s 1 4;
      number = be_at s 5 1;
      values = be_at s 6 4;
      template = be_at s 10 2;
      reference = be_at s 12 4;
      binary_scale = sign_of 2 (be_at s 16 2);
      decimal_scale = sign_of 2 (be_at s 18 2);
      bits = be_at s 20 1;
      value_type = be_at s 21 1;
    })
unfolding values_of placed fields₅ values_in₅
section5_values s = refl
