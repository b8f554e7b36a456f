-- `Shelf::join`: each turn puts the greater of the two slots at its index.
-- Assumes nothing.
use Rattle.std.proofs.Common.{rules, arith, ◌≡◌, refl, sym, ap, ◌∙◌, ◌<◌, length}
use mathlib.Core.List.{List}
use lib.ListN.{get_or, set}
use native.Mathlib.Numerals.{add-one}
use Rattle.octets.proofs.Lists.{unmapped}
use Rattle.shelf.specs.Shelves.{Slot, greater_slot, blank}
use Rattle.shelf.proofs.Slots.{option_max}
use Rattle.shelf.proofs.Laws.{shelf}
use Rattle.shelf.proofs.Pointwise.{up_to, up_to-suc, up_to-all}
use Rattle.shelf.proofs.Shelf.join.Goals as goal

pub loop-i-init : goal.loop-i-init
unfolding up_to
loop-i-init c = refl

pub loop-i-preserved : goal.loop-i-preserved
loop-i-preserved c =
    let a = c.args.self.slots in
    let b = c.args.other.slots in
    let i = c.loop-i.i in
    let long-a : length a ≡ 64 = search (rules, unmapped) in
    let long-b : length b ≡ 64 = search (rules, unmapped) in
    let below : i < 64 = search rules in
    let put : c.max.result ≡ greater_slot (get_or c.loop-i.self.slots i blank) (get_or b i blank) = search (rules, option_max) in
    rw (add-one) (ap (λ (y : Slot). set c.loop-i.self.slots i y) put
    ∙ ap (λ (l : List Slot). set l i (greater_slot (get_or l i blank) (get_or b i blank))) c.loop-i.invariant
    ∙ sym (up_to-suc greater_slot i a b blank blank (omega (arith, below, long-a)) (omega (arith, below, long-b))))

pub returns : goal.returns
returns c =
    let a = c.args.self.slots in
    let b = c.args.other.slots in
    let i = c.loop-i.i in
    let long-a : length a ≡ 64 = search (rules, unmapped) in
    let long-b : length b ≡ 64 = search (rules, unmapped) in
    let all : i ≡ 64 = search rules in
    ap shelf (c.loop-i.invariant ∙ up_to-all greater_slot i a b (omega (arith, all, long-a)) (omega (arith, all, long-b)))
