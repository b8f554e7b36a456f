-- `accepted`: the heading, the fields and how many they are.
-- Assumes nothing.
use Rattle.lent.proofs.Writers.{and_then}
use Rattle.contents.specs.Contents.{accepted_text}
use Rattle.contents.proofs.accepted.Goals as goal

pub returns : goal.returns
unfolding accepted_text
returns c =
    and_then _ _ _ c.octets.ensures
    (and_then _ _ _ c.field_lines.ensures
    (and_then _ _ _ c.octets-2.ensures
    c.number_then.ensures))
