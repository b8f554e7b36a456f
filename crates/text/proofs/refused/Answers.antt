-- `refused`: the word and three numbers.
-- Assumes nothing.
use Rattle.std.proofs.Common.{rules}
use Rattle.lent.proofs.Writers.{and_then}
use Rattle.text.proofs.refused.Goals as goal

pub returns : goal.returns
returns c = and_then _ _ _ c.octets.ensures (search (rules, and_then))
