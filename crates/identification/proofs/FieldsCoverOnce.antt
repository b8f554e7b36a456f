-- The fields of each template of section 1 stand where document 01 has them and cover octets 1 to its total once.
-- Assumes nothing.
use Prim.Native.Nat.{ℕ}
use mathlib.Core.Path.{◌≡◌, refl, ◌∙◌}
use mathlib.Core.List.{List}
use lib.ListN.{length}
use Rattle.layout.specs.Fields.{after, runs, placed, width_of, Covered}
use Rattle.layout.specs.Time.{time}
use Rattle.layout.proofs.Blocks.{covered}
use Rattle.identification.specs.Section1.{fields₁, origin, status_and_type, total}
use Rattle.identification.specs.Accepted.{octets₁}
use Rattle.identification.specs.declared.Template.{Template}
use Rattle.identification.specs.declared.Template.TheVariants.{None as no_template, Calendar, Offset, CalendarAndOffset}

at_1 : (template : Template) → runs (after 0 (fields₁ template)) ≡ octets₁ template
unfolding runs placed fields₁ origin time status_and_type
at_1 no_template = refl
at_1 Calendar = refl
at_1 Offset = refl
at_1 CalendarAndOffset = refl

-- the document's totals are the fields' octet counts
total-is : (template : Template) → total template ≡ width_of (fields₁ template)
unfolding width_of fields₁ origin time status_and_type
total-is no_template = refl
total-is Calendar = refl
total-is Offset = refl
total-is CalendarAndOffset = refl

pub covered₁ : (template : Template) (s : List ℕ) → length s ≡ total template → Covered (after 0 (fields₁ template)) (octets₁ template) s
covered₁ template s e = covered (fields₁ template) (octets₁ template) s (at_1 template) (e ∙ total-is template)
