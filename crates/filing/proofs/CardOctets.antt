-- The card of an accepted section 1 and a section 4 is what `card_at` has by octet numbers, and 17 looks at octet 24.
-- Assumes nothing.
use Prim.Native.Nat.{ℕ}
use mathlib.Core.Path.{◌≡◌, refl, ap, sym, subst, ◌∙◌}
use mathlib.Core.Logic.{◌↔◌}
use mathlib.Core.Bool.{false}
use mathlib.Core.List.{List}
use Rattle.layout.specs.Fields.{Value, placed, values_of}
use Rattle.layout.specs.Outcomes.{read}
use Rattle.layout.specs.Time.{time}
use Rattle.layout.proofs.Ranges.{test-same, same_test}
use Rattle.identification.specs.Section1.{outcome₁, values₁, fields₁, origin, status_and_type}
use Rattle.identification.specs.Accepted.{Follows₁}
use Rattle.identification.specs.declared.Template.{Template}
use Rattle.identification.specs.declared.Template.TheVariants.{None as no_template, Calendar, Offset, CalendarAndOffset}
use Rattle.identification.proofs.AcceptedExactlyWhen.{accepted-follows}
use Rattle.filing.specs.Filing.{card_of, card_at, foreign_calendar}
use Rattle.filing.specs.Accepted.{Gregorian}

card-of-values : (template : Template) (s1 : List ℕ) (issue : ℕ) (s4 : List ℕ) → card_of (values₁ template s1) issue s4 ≡ card_at template s1 issue s4
unfolding card_of values₁ values_of placed fields₁ origin time status_and_type
card-of-values no_template s1 issue s4 = refl
card-of-values Calendar s1 issue s4 = refl
card-of-values Offset s1 issue s4 = refl
card-of-values CalendarAndOffset s1 issue s4 = refl

calendar-of-values : (template : Template) (s1 : List ℕ) → (foreign_calendar (values₁ template s1) ≡ false) ↔ Gregorian template s1
unfolding values₁ values_of placed fields₁ origin time status_and_type
calendar-of-values no_template s1 = ((λ e. tt), (λ g. refl))
calendar-of-values Calendar s1 = (test-same _ _, same_test _ _)
calendar-of-values Offset s1 = ((λ e. tt), (λ g. refl))
calendar-of-values CalendarAndOffset s1 = (test-same _ _, same_test _ _)

pub card-octets : (s1 : List ℕ) (one : List Value) (issue : ℕ) (s4 : List ℕ) → outcome₁ s1 ≡ read one →
    (template : Template) × Follows₁ template s1 × (card_of one issue s4 ≡ card_at template s1 issue s4) × ((foreign_calendar one ≡ false) ↔ Gregorian template s1)
card-octets s1 one issue s4 e =
    let f = accepted-follows s1 one e in (
      f.0,
      f.1,
      ap (λ (vs : List Value). card_of vs issue s4) f.2 ∙ card-of-values f.0 s1 issue s4,
      subst (λ (vs : List Value). (foreign_calendar vs ≡ false) ↔ Gregorian f.0 s1) (sym f.2) (calendar-of-values f.0 s1),
    )
