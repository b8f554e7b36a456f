-- Document 01's starred cases, all of them.
-- Assumes nothing.
use Rattle.std.specs.Prelude.{List, ◌++◌}
use Rattle.layout.specs.Examples.{Example}
use Rattle.identification.specs.Examples.{starred_years}
use Rattle.grid.specs.Examples.{starred_grids}
use Rattle.product.specs.Examples.{starred_products}
use Rattle.packing.specs.Examples.{starred_packing}
use Rattle.queue.specs.Examples.{starred_queues}

abbrev pub starred : List Example
starred = starred_years ++ (starred_products ++ (starred_grids ++ (starred_packing ++ starred_queues)))
