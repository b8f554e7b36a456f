-- The number of points in the record of a section 3 is what its octets 7-10 say.
-- Assumes nothing.
use Prim.Native.Nat.{ℕ}
use mathlib.Core.Path.{◌≡◌, ap}
use mathlib.Core.List.{List}
use lib.ListN.{get_or}
use Rattle.octets.specs.Octets.{be_at}
use Rattle.layout.specs.Fields.{Value, none, placed, values_of, natural_in}
use Rattle.layout.specs.Outcomes.{read}
use Rattle.grid.specs.Blocks.{grid_head, values_in}
use Rattle.grid.specs.Templates.{fields₃, values₃}
use Rattle.grid.specs.Section3.{outcome₃}
use Rattle.grid.specs.declared.blocks.Grid.{Grid}
use Rattle.grid.proofs.AcceptedExactlyWhen.{accepted-follows}

pub points-are : (s : List ℕ) (x : Grid) → outcome₃ s ≡ read (values_in x) → x.points ≡ be_at s 7 4
unfolding values_in values₃ fields₃ grid_head placed values_of
points-are s x e = ap (λ (vs : List Value). natural_in (get_or vs 3 none)) (accepted-follows s (values_in x) e).2
