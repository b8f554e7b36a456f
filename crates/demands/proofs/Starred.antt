-- Document 01's starred cases hold of the definitions: one list, one claim.
-- Assumes nothing.
use mathlib.Core.List.{List, [], ◌∷◌, ◌++◌}
use Rattle.layout.specs.Examples.{Example, AllAgree}
use Rattle.identification.proofs.StarredYears.{years-agree}
use Rattle.grid.proofs.StarredGrids.{grids-agree}
use Rattle.product.proofs.StarredProducts.{products-agree}
use Rattle.packing.proofs.StarredPacking.{packing-agrees}
use Rattle.queue.proofs.StarredQueues.{queues-agree}
use Rattle.demands.specs.Starred.{starred}

pub both : (some more : List Example) → AllAgree some → AllAgree more → AllAgree (some ++ more)
unfolding AllAgree
both [] more p q = q
both (e ∷ es) more p q = (p.0, both es more p.1 q)

pub starred-cases : AllAgree starred
starred-cases = both _ _ years-agree.0 (both _ _ products-agree.0 (both _ _ grids-agree.0 (both _ _ packing-agrees.0 queues-agree)))
