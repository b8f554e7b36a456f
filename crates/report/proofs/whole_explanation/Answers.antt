-- `whole_explanation`: the text always fits.
-- Assumes nothing.
use borrow.Author.Rules.{rules}
use mathlib.Core.Path.{◌∙◌}
use Rattle.report.proofs.Room.{explanation-whole}
use Rattle.report.proofs.whole_explanation.Goals as goal

pub returns : goal.returns
returns c =
    c.explanation.ensures ∙ explanation-whole c.args.queue.now c.args.out.now (search rules)
