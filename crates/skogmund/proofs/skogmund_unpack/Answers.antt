-- `skogmund_unpack`: what `unpack` answers, as one number.
-- Assumes nothing.
use mathlib.Core.Path.{ap, ap₂, ◌∙◌}
use Rattle.lent.specs.Lent.{done}
use Rattle.packing.proofs.RefusalNumbers.{unpacking-refuses}
use Rattle.skogmund.specs.Entries.{coded, row_unpacked}
use Rattle.skogmund.proofs.skogmund_unpack.Goals as goal

pub returns-in-Ok : goal.returns-in-Ok
unfolding row_unpacked
returns-in-Ok c = let u = c.in-Ok.ensures in ap₂ done (ap coded u.answers) u.leaves

pub code-requires : goal.code-requires
code-requires c = (unpacking-refuses _ _ _ _ c.in-Err.ensures.answers).placed.within

pub returns-in-Err : goal.returns-in-Err
unfolding row_unpacked
returns-in-Err c = let u = c.in-Err.ensures in ap₂ done (c.code.ensures ∙ ap coded u.answers) u.leaves
