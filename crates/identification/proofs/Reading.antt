-- A section 1 is read in the steps in which a program reads it: the opening, the template, 7, the fields, the total.
-- Assumes nothing.
use Prim.Native.Nat.{ℕ, zero, suc}
use mathlib.Core.Path.{◌≡◌, refl, ap, ◌∙◌}
use mathlib.Core.Bool.{Bool, true, false, cond}
use mathlib.Core.List.{List, [], ◌∷◌, ◌++◌}
use lib.Dec.{eqb, ltb}
use lib.ListN.{length}
use Rattle.std.specs.Prelude.{Ok, Err}
use Rattle.octets.specs.Octets.{be_at}
use Rattle.layout.specs.Fields.{plain, is, not_ones, placed, after, values_of}
use Rattle.layout.specs.Outcomes.{refused, read, refusal, reason, first_of, first_refusal, opening_reasons, total_reasons, and_check, if_allowed, all_allowed}
use Rattle.layout.specs.Time.{time}
use Rattle.layout.proofs.Outcomes.{check_then, then_by, first-check, allowed_append, template_checks}
use Rattle.identification.specs.Section1.{listed_template, template_of, template_fields, origin, status_and_type, fields₁, total, real_year_at, values₁, template_in, as_template, by_number, by_template, outcome₁}
use Rattle.identification.specs.Means.{year_meant, number_meant, calendar_meant, offset_meant, real_year_meant}
use Rattle.identification.specs.declared.Template.{Template}
use Rattle.identification.specs.declared.Template.TheVariants.{None as no_template, Calendar, Offset, CalendarAndOffset}

-- ---- the template

pub unlisted : (n : ℕ) → (n ≡ 0 → ⊥) → (n ≡ 1 → ⊥) → (n ≡ 2 → ⊥) → listed_template n ≡ Err (refusal 6 1 0)
unfolding listed_template
unlisted zero a b c = absurd (a refl)
unlisted (suc zero) a b c = absurd (b refl)
unlisted (suc (suc zero)) a b c = absurd (c refl)
unlisted (suc (suc (suc n))) a b c = refl

-- ---- the fields: year, time, and the offset among those from octet 22 on

pub fields_checked : (template : Template) (s : List ℕ) → all_allowed 1 (after 0 (fields₁ template)) s ≡ and_check (if_allowed 1 13 (not_ones 2 (be_at s 13 2))) (and_check (all_allowed 1 (after 14 time) s) (all_allowed 1 (placed 0 22 (template_fields template)) s))
unfolding all_allowed and_check placed fields₁ origin time status_and_type
fields_checked template s =
    ap (and_check (if_allowed 1 13 (not_ones 2 (be_at s 13 2)))) (allowed_append 1 (after 14 time) (placed 0 20 (status_and_type ++ template_fields template)) s)

-- ---- the values of a section that follows a template are its fields' meanings

pub values_meant : (template : Template) (s : List ℕ) → values₁ template s
    ≡ plain (be_at s 1 4)
    ∷ plain (be_at s 5 1)
    ∷ plain (be_at s 6 2)
    ∷ plain (be_at s 8 2)
    ∷ plain (be_at s 10 1)
    ∷ plain (be_at s 11 1)
    ∷ plain (be_at s 12 1)
    ∷ is (year_meant template s)
    ∷ (values_of (after 14 time) s
    ++ (plain (be_at s 20 1)
    ∷ plain (be_at s 21 1)
    ∷ template_in (number_meant template s) (calendar_meant template s) (offset_meant template s) (real_year_meant template s)))
unfolding values₁ fields₁ real_year_at placed values_of origin time status_and_type
values_meant no_template s = refl
values_meant Calendar s = refl
values_meant Offset s = refl
values_meant CalendarAndOffset s = refl

-- ---- the steps

by-number : (n : ℕ) (s : List ℕ) → by_number n s ≡ then_by (listed_template n) (λ t. as_template t s)
unfolding by_number listed_template
by-number zero s = refl
by-number (suc zero) s = refl
by-number (suc (suc zero)) s = refl
by-number (suc (suc (suc n))) s = refl

behind-opening : (s : List ℕ) → first_of 1 (reason 5 (eqb (length s) 22) ∷ []) (by_template s) ≡ then_by (template_of s) (λ t. as_template t s)
unfolding first_of by_template template_of
behind-opening s = by (eqb (length s) 22) (eqb (length s) 21) (by-number (be_at s 22 2) s)
  where
    by : (t u : Bool) → by_number (be_at s 22 2) s ≡ then_by (listed_template (be_at s 22 2)) (λ x. as_template x s) → cond t (refused 5 1 0) (cond u (as_template no_template s) (by_number (be_at s 22 2) s)) ≡ then_by (cond t (Err (refusal 5 1 0)) (cond u (Ok no_template) (listed_template (be_at s 22 2)))) (λ x. as_template x s)
    by true u e = refl
    by false true e = refl
    by false false e = e

by-fields : (template : Template) (s : List ℕ) → as_template template s ≡ cond (ltb (length s) (total template)) (refused 7 1 0) (check_then (all_allowed 1 (after 0 (fields₁ template)) s) (check_then (first_refusal 1 (total_reasons (total template) s)) (read (values₁ template s))))
unfolding as_template
by-fields template s = template_checks 1 (total template) 0 (total template) (fields₁ template) s (read (values₁ template s))

pub read_in_steps : (s : List ℕ) → outcome₁ s ≡ check_then (first_refusal 1 (opening_reasons 1 21 s)) (then_by (template_of s) (λ t. cond (ltb (length s) (total t)) (refused 7 1 0) (check_then (all_allowed 1 (after 0 (fields₁ t)) s) (check_then (first_refusal 1 (total_reasons (total t) s)) (read (values₁ t s))))))
unfolding outcome₁
read_in_steps s = first-check 1 (opening_reasons 1 21 s) _ ∙ ap (check_then (first_refusal 1 (opening_reasons 1 21 s))) (behind-opening s ∙ (λ i. then_by (template_of s) (λ t. by-fields t s i)))
