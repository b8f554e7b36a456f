-- `walk_sections`: from section to section, each judged by those before it.
-- Assumes nothing.
use Prim.Native.Nat.{◌-◌}
use mathlib.Core.Path.{◌≡◌}
use lib.ListN.{length}
use Rattle.std.specs.Prelude.{Ok}
use Rattle.message.specs.Walk.{start_walk, told}
use Rattle.message.proofs.Walks.{judged_from}
use Rattle.message.proofs.walk_sections.Given as goal

abbrev pub invariant-loop-at : goal.invariant-loop-at
invariant-loop-at l = judged_from l.body l.right (record { last = l.last; force = l.force; found = told (Ok l.found) }) l.at ≡ judged_from l.body l.right start_walk 16

abbrev pub decreases-loop-at : goal.decreases-loop-at
decreases-loop-at l = length l.body - l.at
