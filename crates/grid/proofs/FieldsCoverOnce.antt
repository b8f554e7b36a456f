-- The fields of each template of section 3 stand where document 01 has them, with the list behind the base, and cover the
-- section's octets once, however many octets the list has.
-- Assumes nothing.
use Prim.Native.Nat.{ℕ, ◌+◌}
use native.Mathlib.Omega.{arith}
use mathlib.Core.Path.{◌≡◌, refl, ◌∙◌}
use mathlib.Core.List.{List}
use lib.ListN.{length}
use Rattle.layout.specs.Fields.{after, runs, placed, width_of, Covered}
use Rattle.layout.proofs.Blocks.{covered}
use Rattle.grid.specs.Blocks.{grid_head, earth_size, earth, counts, corners, common, pole, poles}
use Rattle.grid.specs.Templates.{fields₃, base_end}
use Rattle.grid.specs.Accepted.{octets₃}
use Rattle.grid.specs.declared.templates.Template.{Template}
use Rattle.grid.specs.declared.templates.Template.TheVariants.{LatLon, Rotated, Stretched, StretchedAndRotated}

at-3 : (template : Template) (n : ℕ) → runs (after 0 (fields₃ template n)) ≡ octets₃ template n
unfolding runs placed fields₃ grid_head earth_size earth counts corners common pole poles
at-3 LatLon n = refl
at-3 Rotated n = refl
at-3 Stretched n = refl
at-3 StretchedAndRotated n = refl

-- the document's base ends, and the list behind them, are the fields' octet counts
total-is : (template : Template) (n : ℕ) → base_end template + n ≡ width_of (fields₃ template n)
unfolding width_of fields₃ grid_head earth_size earth counts corners common pole poles
total-is LatLon n = omega arith
total-is Rotated n = omega arith
total-is Stretched n = omega arith
total-is StretchedAndRotated n = omega arith

pub covered₃ : (template : Template) (n : ℕ) (s : List ℕ) → length s ≡ base_end template + n → Covered (after 0 (fields₃ template n)) (octets₃ template n) s
covered₃ template n s e = covered (fields₃ template n) (octets₃ template n) s (at-3 template n) (e ∙ total-is template n)
