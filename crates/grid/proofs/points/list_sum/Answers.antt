use Rattle.grid.proofs.Listed.{none_summed}
use Rattle.grid.proofs.points.list_sum.Goals as goal

pub loop-number-init : goal.loop-number-init
loop-number-init g c = (cc, none_summed _ _ _ (cc))
