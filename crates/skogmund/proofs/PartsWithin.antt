-- Where C is told that a part stands, the section has all of its octets.
-- Assumes nothing.
use Prim.Native.Nat.{ℕ}
use native.Mathlib.Omega.{arith}
use mathlib.Core.Bool.{Bool, true, false, cond}
use mathlib.Core.List.{List}
use lib.Dec.{eqb}
use Rattle.layout.specs.Spans.{nowhere, Within}
use Rattle.grid.specs.Views.{list_span}
use Rattle.product.specs.Views.{range_span, member_span, coordinate_span}
use Rattle.grid.proofs.ListShown.{list-within}
use Rattle.product.proofs.ViewsAreTheLayouts.{range-within, members-within, coordinates-within}
use Rattle.skogmund.specs.Parts.{part_span}

pub part-within : (part : ℕ) (s : List ℕ) (k : ℕ) → Within (part_span part s k) s
unfolding part_span
part-within part s k = by_number (eqb part 1) (eqb part 2) (eqb part 3) (eqb part 4)
  where
    by_number : (one two three four : Bool) → Within (cond one (list_span s) (cond two (range_span s k) (cond three (member_span s) (cond four (coordinate_span s) nowhere)))) s
    by_number true two three four = list-within s
    by_number false true three four = range-within s k
    by_number false false true four = members-within s
    by_number false false false true = coordinates-within s
    by_number false false false false = omega arith
