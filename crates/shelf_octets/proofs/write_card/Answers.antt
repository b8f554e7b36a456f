-- `write_card`: the year, the five octets of the time, the issue and the product's octets.
-- Assumes nothing.
use mathlib.Core.Path.{◌≡◌, sym, ap, ◌∙◌}
use lib.ListN.{length}
use borrow.Author.Rules.{rules}
use Rattle.octets.specs.Octets.{part}
use Rattle.octets.proofs.Laws.{part-all}
use Rattle.octets.proofs.Lists.{unmapped}
use Rattle.octets.proofs.Signs.{kept32}
use Rattle.lent.specs.Writers.{writes}
use Rattle.lent.proofs.Writers.{and_then}
use Rattle.shelf_octets.specs.ShelfOctets.{octets_of_card}
use Rattle.shelf_octets.proofs.write_card.Goals as goal

pub returns : goal.returns
unfolding octets_of_card
returns c =
    let length-is : length c.args.card.product ≡ 27 = search (rules, unmapped) in
    let product : part c.args.card.product 1 27 ≡ c.args.card.product = rw (length-is) at (part-all c.args.card.product) in
    and_then _ _ _ (rw (c.raw_year.ensures, kept32 c.args.card.year (search rules)) at c.write_number.ensures)
    (and_then _ _ _ c.octet.ensures
    (and_then _ _ _ c.octet-2.ensures
    (and_then _ _ _ c.octet-3.ensures
    (and_then _ _ _ c.octet-4.ensures
    (and_then _ _ _ c.octet-5.ensures
    (and_then _ _ _ c.write_number-2.ensures
    (c.octets.ensures ∙ ap (writes _) (sym product))))))))
