-- `refused_line`: the word and the number.
-- Assumes nothing.
use Rattle.lent.proofs.Writers.{and_then}
use Rattle.report.specs.Texts.{refused_line}
use Rattle.report.proofs.refused_line.Goals as goal

pub returns : goal.returns
unfolding refused_line
returns c =
    and_then _ _ _ c.octets.ensures
    c.number_then.ensures
