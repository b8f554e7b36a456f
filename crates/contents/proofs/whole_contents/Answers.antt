-- `whole_contents`: the text always fits.
-- Assumes nothing.
use borrow.Author.Rules.{rules}
use mathlib.Core.Path.{◌∙◌}
use Rattle.contents.proofs.Room.{contents-whole}
use Rattle.contents.proofs.whole_contents.Goals as goal

pub returns : goal.returns
returns c =
    c.contents.ensures ∙ contents-whole c.args.message.now c.args.out.now (search rules)
