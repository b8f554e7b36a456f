-- `counts_line`: three words and three numbers.
-- Assumes nothing.
use Rattle.lent.proofs.Writers.{and_then}
use Rattle.report.specs.Texts.{counts_line}
use Rattle.report.proofs.counts_line.Goals as goal

pub returns : goal.returns
unfolding counts_line
returns c =
    and_then _ _ _ c.octets.ensures
    (and_then _ _ _ c.number.ensures
    (and_then _ _ _ c.octets-2.ensures
    (and_then _ _ _ c.number-2.ensures
    (and_then _ _ _ c.octets-3.ensures
    c.number_then.ensures))))
