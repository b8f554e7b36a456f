-- `read`: each call answers the slot at its index.
-- Assumes nothing.
use mathlib.Core.Path.{ap}
use borrow.Author.Rules.{rules}
use Rattle.card.proofs.Made.{made}
use Rattle.shelf.specs.Shelves.{blank}
use Rattle.shelf.proofs.Laws.{shelf}
use Rattle.shelf_octets.specs.ShelfOctets.{slots_in}
use Rattle.shelf_octets.proofs.Laws.{slots_length}
use Rattle.shelf_octets.proofs.read.Goals as goal

pub returns : goal.returns
returns c =
    let o = c.args.octets.now in
    ap shelf (made _ _ (slots_in 64 o) blank 64 (slots_length 64 o) (λ i y f' h r. (search rules, search rules)) _ c.from_fn.ensures.items)
