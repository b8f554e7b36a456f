-- A section 1 is accepted exactly when it follows a template and keeps the value rules; what is read out are then the values of
-- that template's fields.
-- Assumes nothing.
use Prim.Native.Nat.{ℕ, zero, suc, ◌≤◌}
use native.Mathlib.Omega.{arith}
use mathlib.Core.Path.{◌≡◌, refl, sym, ◌∙◌}
use mathlib.Core.Logic.{◌↔◌}
use mathlib.Core.List.{List, [], ◌∷◌}
use mathlib.Core.Bool.{Bool, true, false, cond}
use lib.ListN.{length}
use lib.Dec.{eqb}
use borrow.Author.Tests.{ne_eqb, eqb-false}
use Rattle.octets.specs.Octets.{be_at}
use Rattle.layout.specs.Fields.{Value, after, placed, bad_place, AllAllowed}
use Rattle.layout.specs.Outcomes.{read, reason}
use Rattle.layout.specs.Time.{time}
use Rattle.layout.proofs.Blocks.{bad-none, none-bad}
use Rattle.layout.proofs.Outcomes.{Headed, Fits, NoneHold, read_none, none_last, opening-read, opening-last, template-read, template-last}
use Rattle.layout.proofs.Ranges.{between_in, in_between, test-differs, differs-test}
use Rattle.identification.specs.Section1.{fields₁, origin, status_and_type, template_fields, total, values₁, as_template, by_number, by_template, outcome₁}
use Rattle.identification.specs.Accepted.{Names, ReadBy, OffsetPresent, Follows₁}
use Rattle.identification.specs.declared.Template.{Template}
use Rattle.identification.specs.declared.Template.TheVariants.{None as no_template, Calendar, Offset, CalendarAndOffset}

-- the offset's rule is that of the fields from octet 22 on
offset-in : (template : Template) (s : List ℕ) → AllAllowed (placed 0 22 (template_fields template)) s → OffsetPresent template s
unfolding AllAllowed placed
offset-in no_template s h = tt
offset-in Calendar s h = tt
offset-in Offset s h = test-differs _ _ h.1.1.0
offset-in CalendarAndOffset s h = test-differs _ _ h.1.1.0

in-offset : (template : Template) (s : List ℕ) → OffsetPresent template s → AllAllowed (placed 0 22 (template_fields template)) s
unfolding AllAllowed placed
in-offset no_template s h = (refl, (refl, (refl, tt)))
in-offset Calendar s h = (refl, (refl, (refl, tt)))
in-offset Offset s h = (refl, (refl, (differs-test _ _ h, tt)))
in-offset CalendarAndOffset s h = (refl, (refl, (differs-test _ _ h, tt)))

-- ---- accepted, so it follows

-- the template by which a section is read
template-of : (s : List ℕ) (vs : List Value) → by_template s ≡ read vs → (template : Template) × Names template s × (as_template template s ≡ read vs)
unfolding by_template by_number
template-of s vs e = by_length (eqb (length s) 21) e
  where
    by_each_number : (n : ℕ) → be_at s 22 2 ≡ n → by_number n s ≡ read vs → (template : Template) × Names template s × (as_template template s ≡ read vs)
    by_each_number zero h e = (Calendar, h, e)
    by_each_number (suc zero) h e = (Offset, h, e)
    by_each_number (suc (suc zero)) h e = (CalendarAndOffset, h, e)
    by_each_number (suc (suc (suc n))) h e = let z : ◌≡◌ {A = ℕ} 0 1 = cc in absurd (omega arith)

    by_length : (t : Bool) → cond t (as_template no_template s) (by_number (be_at s 22 2) s) ≡ read vs → (template : Template) × Names template s × (as_template template s ≡ read vs)
    by_length true e = (no_template, tt, e)
    by_length false e = by_each_number (be_at s 22 2) refl e

pub accepted-follows : (s : List ℕ) (vs : List Value) → outcome₁ s ≡ read vs → (template : Template) × Follows₁ template s × (vs ≡ values₁ template s)
unfolding outcome₁ as_template NoneHold AllAllowed placed fields₁ origin time status_and_type
accepted-follows s vs e =
    let head = opening-read 1 s _ 21 vs e in
    let by = template-of s vs (read_none 1 (reason 5 (eqb (length s) 22) ∷ []) _ vs head.2).1 in
    let template = by.0 in
    let rest = template-read 1 s (read (values₁ template s)) _ _ _ _ vs by.2 in
    let fine = bad-none 0 1 (fields₁ template) s (omega arith) rest.0.in-range in
    let date = fine.1.1.1.1.1.1.1 in (
      template,
      record {
        whole = rest.0.whole;
        says-length = head.0.says-length;
        says-number = head.0.says-number;
        names = by.1;
        year = test-differs _ _ date.0;
        month = between_in _ _ _ date.1.0;
        day = between_in _ _ _ date.1.1.0;
        hour = (between_in _ _ _ date.1.1.1.0).1;
        minute = (between_in _ _ _ date.1.1.1.1.0).1;
        second = (between_in _ _ _ date.1.1.1.1.1.0).1;
        offset = offset-in template s date.1.1.1.1.1.1.1.1;
      },
      cc,
    )

-- ---- it follows, so it is accepted

total-between : (template : Template) → (21 ≤ total template) × (total template ≤ 26)
total-between no_template = (omega arith, omega arith)
total-between Calendar = (omega arith, omega arith)
total-between Offset = (omega arith, omega arith)
total-between CalendarAndOffset = (omega arith, omega arith)

total-not-22 : (template : Template) → total template ≡ 22 → ⊥
total-not-22 no_template e = eqb-false 21 22 refl e
total-not-22 Calendar e = eqb-false 24 22 refl e
total-not-22 Offset e = eqb-false 25 22 refl e
total-not-22 CalendarAndOffset e = eqb-false 26 22 refl e

pub read_by : (template : Template) (s : List ℕ) → ReadBy template s → by_template s ≡ as_template template s
unfolding by_template by_number
read_by no_template s h = rw h
read_by Calendar s h = rw (ne_eqb _ _ h.0, h.1)
read_by Offset s h = rw (ne_eqb _ _ h.0, h.1)
read_by CalendarAndOffset s h = rw (ne_eqb _ _ h.0, h.1)

pub template-named : (template : Template) (s : List ℕ) → length s ≡ total template → Names template s → ReadBy template s
template-named no_template s l n = l
template-named Calendar s l n = ((λ e. eqb-false 24 21 refl (sym l ∙ e)), n)
template-named Offset s l n = ((λ e. eqb-false 25 21 refl (sym l ∙ e)), n)
template-named CalendarAndOffset s l n = ((λ e. eqb-false 26 21 refl (sym l ∙ e)), n)

pub follows-accepted : (template : Template) (s : List ℕ) → Follows₁ template s → outcome₁ s ≡ read (values₁ template s)
unfolding outcome₁ as_template NoneHold AllAllowed placed fields₁ origin time status_and_type
follows-accepted template s f =
    let l = f.whole in
    let between = total-between template in
    let long : 21 ≤ length s = omega (arith, between.0) in
    let headed : Headed 1 s = record { long = omega arith; small = omega (arith, between.1); says-length = f.says-length; says-number = f.says-number } in
    let not-22 = none_last 1 (reason 5 (eqb (length s) 22) ∷ []) (by_template s) (ne_eqb _ _ (λ e. total-not-22 template (sym l ∙ e)), tt) in
    let fine : AllAllowed (after 0 (fields₁ template)) s = search (differs-test _ _ f.year, in_between 1 12 _ f.month, in_between 1 31 _ f.day, in_between 0 23 _ (omega arith, f.hour), in_between 0 59 _ (omega arith, f.minute), in_between 0 59 _ (omega arith, f.second), in-offset template s f.offset) in
    let fits : Fits (total template) (bad_place (after 0 (fields₁ template)) s) 0 (total template) s = record { enough = omega arith; in-range = none-bad _ s fine; own-kept = refl; whole = l } in
    opening-last 1 s _ 21 headed long ∙ not-22 ∙ read_by template s (template-named template s l f.names) ∙ template-last 1 s (read (values₁ template s)) _ _ _ _ fits

pub accepted-exactly-when : (s : List ℕ) → ((vs : List Value) × (outcome₁ s ≡ read vs)) ↔ ((template : Template) × Follows₁ template s)
accepted-exactly-when s = (
  (λ a. let f = accepted-follows s a.0 a.1 in (f.0, f.1)),
  (λ f. (values₁ f.0 s, follows-accepted f.0 s f.1)),
)
