-- What is read out of a section 1 is by name and octet what document 01 has: it follows from the values of the fields in their order.
-- Assumes nothing.
use Prim.Native.Nat.{ℕ}
use mathlib.Core.Path.{◌≡◌, refl, ap, sym, subst, ◌∙◌}
use mathlib.Core.List.{List, [], ◌∷◌, ◌++◌}
use lib.ListN.{get_or}
use Rattle.octets.specs.Octets.{be_at}
use Rattle.layout.specs.Fields.{Value, none, is, whole_in, means, placed, values_of}
use Rattle.layout.specs.Time.{time}
use Rattle.layout.proofs.Untold.{to32, to_signed}
use Rattle.identification.specs.Section1.{fields₁, origin, year_meaning, status_and_type, template_fields, real_year_at, values₁, values_in}
use Rattle.identification.specs.Means.{year_meant, number_meant, calendar_meant, offset_meant, real_year_meant, Means₁}
use Rattle.identification.specs.declared.Template.{Template}
use Rattle.identification.specs.declared.Template.TheVariants.{None as no_template, Calendar, Offset, CalendarAndOffset}
use Rattle.identification.specs.declared.Identification.{Identification}
use Rattle.identification.proofs.AnswersDetermined.{to_identification, identification-back}

-- ---- what the template decides

year-means : (template : Template) (s : List ℕ) → whole_in (means (year_meaning template) 2 (be_at s 13 2)) ≡ year_meant template s
year-means no_template s = refl
year-means Calendar s = refl
year-means Offset s = refl
year-means CalendarAndOffset s = refl

-- the values from octet 22 on, and the real year behind them
abbrev last : Template → List ℕ → List Value
last template s = values_of (placed 0 22 (template_fields template)) s ++ (is (real_year_at template s) ∷ [])

last-means : (template : Template) (s : List ℕ) → (to32 (get_or (last template s) 0 none) ≡ number_meant template s) × (to32 (get_or (last template s) 1 none) ≡ calendar_meant template s)
    × (to_signed (get_or (last template s) 2 none) ≡ offset_meant template s) × (whole_in (get_or (last template s) 3 none) ≡ real_year_meant template s)
unfolding values_of placed real_year_at
last-means no_template s = (refl, refl, refl, refl)
last-means Calendar s = (refl, refl, refl, refl)
last-means Offset s = (refl, refl, refl, refl)
last-means CalendarAndOffset s = (refl, refl, refl, refl)

-- ---- every field

pub means₁ : (template : Template) (s : List ℕ) (x : Identification) → values_in x ≡ values₁ template s → Means₁ template x s
unfolding to_identification values₁ values_of placed fields₁ origin time status_and_type
means₁ template s x e =
    let behind = last-means template s in
    subst (λ (y : Identification). Means₁ template y s) (ap to_identification (sym e) ∙ identification-back x)
    (record {
      says-length = refl;
      says-number = refl;
      centre = refl;
      sub-centre = refl;
      master-version = refl;
      local-version = refl;
      significance = refl;
      year = year-means template s;
      time = record { month = refl; day = refl; hour = refl; minute = refl; second = refl };
      status = refl;
      data-type = refl;
      template-number = behind.0;
      calendar = behind.1;
      offset = behind.2;
      real-year = behind.3;
    })
