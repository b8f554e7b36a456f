-- `list_filed`: the heading, the held slots and the counts.
-- Assumes nothing.
use Rattle.lent.proofs.Writers.{and_then}
use Rattle.report.specs.Texts.{filed_listing}
use Rattle.report.proofs.list_filed.Goals as goal

pub returns : goal.returns
unfolding filed_listing
returns c =
    and_then _ _ _ c.octets.ensures (and_then _ _ _ c.slot_lines.ensures c.counts_line.ensures)
