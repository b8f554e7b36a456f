-- A section 1 follows one template only: their totals differ.
-- Assumes nothing.
use Prim.Native.Nat.{ℕ}
use mathlib.Core.Path.{◌≡◌, refl, sym, ◌∙◌}
use mathlib.Core.Bool.{cond}
use mathlib.Core.List.{List}
use lib.Dec.{eqb}
use Rattle.layout.proofs.Untold.{told_back}
use Rattle.identification.specs.Section1.{total}
use Rattle.identification.specs.Accepted.{Follows₁}
use Rattle.identification.specs.declared.Template.{Template}
use Rattle.identification.specs.declared.Template.TheVariants.{None as no_template, Calendar, Offset, CalendarAndOffset}

-- the template of a total
abbrev of_total : ℕ → Template
of_total n = cond (eqb n 21) no_template (cond (eqb n 24) Calendar (cond (eqb n 25) Offset CalendarAndOffset))

total-back : (template : Template) → of_total (total template) ≡ template
total-back no_template = refl
total-back Calendar = refl
total-back Offset = refl
total-back CalendarAndOffset = refl

pub one-template : (t u : Template) (s : List ℕ) → Follows₁ t s → Follows₁ u s → t ≡ u
one-template t u s f g = told_back total of_total total-back t u (sym f.whole ∙ g.whole)
