-- `whole_listing`: the text always fits.
-- Assumes nothing.
use borrow.Author.Rules.{rules}
use mathlib.Core.Path.{◌∙◌}
use Rattle.report.proofs.Room.{listing-whole}
use Rattle.report.proofs.whole_listing.Goals as goal

pub returns : goal.returns
returns c =
    c.listing.ensures ∙ listing-whole c.args.queue.now c.args.out.now (search rules)
