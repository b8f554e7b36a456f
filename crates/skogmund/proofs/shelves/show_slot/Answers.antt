-- `show_slot`: 0, or 34 and the values of the card.
-- Assumes nothing.
use native.Mathlib.Omega.{arith}
use mathlib.Core.Path.{sym, ap, ◌∙◌}
use mathlib.Core.List.{[], ◌∷◌, map}
use lib.IntN.{pos}
use lib.Seq.{sets}
use borrow.Author.Rules.{rules}
use Rattle.octets.specs.Octets.{part}
use Rattle.octets.proofs.Signs.{kept32, kept64}
use Rattle.shelf.specs.Shelves.{Slot}
use Rattle.lent.specs.Lent.{with_count}
use Rattle.lent.proofs.Rows.{sets-both, sets_over}
use Rattle.skogmund.specs.Shelves.{card_values, slot_numbers}
use Rattle.skogmund.proofs.shelves.show_slot.Goals as goal

pub returns-in_default : goal.returns-in_default
unfolding with_count slot_numbers
returns-in_default c =
    let v = c.args.values.now in
    sets_over (pos 0 ∷ []) v (omega (arith, c.requires)) ∙ ap (λ (s : Slot). with_count (slot_numbers s) v) (sym c.in_default.is)

pub returns : goal.returns
unfolding with_count slot_numbers part
returns c =
    let x = c.in-Some.card in
    let v = c.args.values.now in
    let m = map pos (part x.product 1 27) in
    let year = kept64 _ c.from.type_inv ∙ c.from.ensures ∙ kept32 x.year (search rules) in
    let month = kept64 _ c.from-2.type_inv ∙ c.from-2.ensures in
    let day = kept64 _ c.from-3.type_inv ∙ c.from-3.ensures in
    let hour = kept64 _ c.from-4.type_inv ∙ c.from-4.ensures in
    let minute = kept64 _ c.from-5.type_inv ∙ c.from-5.ensures in
    let second = kept64 _ c.from-6.type_inv ∙ c.from-6.ensures in
    let issue = kept64 _ c.from-7.type_inv ∙ c.from-7.ensures in
    c.show_product.ensures
    ∙ (λ i. sets (sets v 0 (pos 34 ∷ year i ∷ month i ∷ day i ∷ hour i ∷ minute i ∷ second i ∷ issue i ∷ [])) 8 m)
    ∙ sets-both (pos 34 ∷ x.year ∷ pos x.month ∷ pos x.day ∷ pos x.hour ∷ pos x.minute ∷ pos x.second ∷ pos x.issue ∷ []) m v 0
    ∙ sets_over (pos 34 ∷ card_values x) v (omega (arith, c.requires))
    ∙ ap (λ (s : Slot). with_count (slot_numbers s) v) (sym c.in-Some.is)
