-- `explain_filed`: the heading, the records and the counts.
-- Assumes nothing.
use Rattle.lent.proofs.Writers.{and_then}
use Rattle.report.specs.Texts.{filed_explanation}
use Rattle.report.proofs.explain_filed.Goals as goal

pub returns : goal.returns
unfolding filed_explanation
returns c =
    and_then _ _ _ c.octets.ensures (and_then _ _ _ c.record_lines.ensures c.counts_line.ensures)
