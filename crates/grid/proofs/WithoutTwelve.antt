-- Nothing changed when refusal 12 was taken out: Ni x Nj of a section of octets is below 2^64, so the outcome with 12 and the outcome without it
-- are the same. (`specs/Twelve.antt` has what 12 was.)
-- Assumes nothing.
use Prim.Native.Nat.{ℕ, ◌*◌, ◌^◌, ◌<◌}
use mathlib.Core.Path.{◌≡◌, refl}
use mathlib.Core.Bool.{false, and-false}
use mathlib.Core.List.{List}
use lib.Dec.{eqb}
use borrow.Author.Tests.{lt-leb}
use Rattle.octets.specs.Octets.{AllOctets, part, be, be_at, digits}
use Rattle.octets.proofs.Laws.{be_at-below, product-below}
use Rattle.layout.specs.Fields.{between, placed, lowest_bad}
use Rattle.layout.specs.Outcomes.{refused, first_of, opening_reasons, total_reasons, fitting_reasons, template_reasons}
use Rattle.grid.specs.Blocks.{grid_head, earth_size, earth, counts, corners, common, poles}
use Rattle.grid.specs.Templates.{list_width, fields₃, list_count, template_numbered}
use Rattle.grid.specs.Agreement.{agreed_without_list, agreed}
use Rattle.grid.specs.Points.{points_without_list, points_of}
use Rattle.grid.specs.Section3.{as_template, outcome₃}
use Rattle.grid.specs.Twelve.{product_above, as_template_with_twelve, outcome_with_twelve, numbers_no_octets}

-- two numbers of four octets, also where one is all ones
pub product-below-64-bits : (s : List ℕ) → AllOctets s → be_at s 31 4 * be_at s 35 4 < 2 ^ 64
product-below-64-bits s o = product-below 32 32 (be_at s 31 4) (be_at s 35 4) (be_at-below s 31 4 o) (be_at-below s 35 4 o)

pub never-above : (s : List ℕ) → AllOctets s → product_above s ≡ false
unfolding product_above
never-above s o = rw (lt-leb _ _ (product-below-64-bits s o)) (and-false (eqb (list_width s) 0))

pub same-without-twelve : (s : List ℕ) → AllOctets s → outcome_with_twelve s ≡ outcome₃ s
unfolding outcome_with_twelve as_template_with_twelve outcome₃ as_template first_of
same-without-twelve s o = rw (never-above s o)

-- of numbers that are no octets the two differ: what was taken out is in the one, and not in the other
pub octets-needed : (outcome_with_twelve numbers_no_octets ≡ refused 12 3 0) × (outcome₃ numbers_no_octets ≡ refused 13 3 0)
unfolding numbers_no_octets digits part be be_at between placed lowest_bad first_of opening_reasons total_reasons fitting_reasons template_reasons grid_head earth_size earth counts corners common poles fields₃ agreed_without_list agreed list_count points_without_list points_of template_numbered as_template outcome₃ product_above as_template_with_twelve outcome_with_twelve
octets-needed = (refl, refl)
