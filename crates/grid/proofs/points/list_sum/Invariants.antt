use mathlib.Core.Path.{◌≡◌}
use lib.ListN.{length}
use Rattle.grid.proofs.Listed.{Summed}
use Rattle.grid.proofs.points.list_sum.Given as goal

abbrev pub invariant-loop-number : goal.invariant-loop-number
invariant-loop-number g l = (l.number-iterator.size ≡ g.T.Width.OCTETS)
    × Summed g.T.Width.OCTETS l.list l.number-iterator.rest.now (length l.yielded) l.sum
