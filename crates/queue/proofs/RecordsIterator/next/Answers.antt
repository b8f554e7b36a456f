-- `next`: the record ends within the octets, the walk stands behind it, and one less is left there.
-- Assumes nothing.
use borrow.Author.Rules.{rules}
use native.Mathlib.Omega.{arith}
use mathlib.Core.Path.{refl, ap, sym}
use lib.ListN.{length}
use Rattle.std.proofs.lemmas.List.{take_rest}
use Rattle.cutting.specs.Cuts.{Cut}
use Rattle.queue.specs.Queues.{Sent}
use Rattle.queue.specs.Walks.{cut_left}
use Rattle.queue.proofs.Cuts.{given}
use Rattle.queue.proofs.RecordsIterator.next.Goals as goal

pub slice_bounds-self-count : goal.slice_bounds-self-count
slice_bounds-self-count c = let r = given c.args.self.now.rest.now _ (sym c.in_ok-head.ensures) in omega (arith, r.bodied, r.inside)

pub slice_bounds-self-start : goal.slice_bounds-self-start
slice_bounds-self-start c =
    let r = given c.args.self.now.rest.now _ (sym c.in_ok-head.ensures) in
    let bodied = r.bodied in
    let inside = r.inside in
    search (rules, arith)

pub returns-clause-goes : goal.returns-clause-goes
unfolding cut_left
returns-clause-goes c =
    let less = ap (λ (x : Cut Sent). length x.items) (given c.args.self.now.rest.now _ (sym c.in_ok-head.ensures)).cut in
    search rules

pub returns-clause-steps : goal.returns-clause-steps
unfolding cut_left
returns-clause-steps c =
    let s = c.args.self.now.rest.now in
    let there = sym c.in_ok-head.ensures in
    (refl, there, take_rest s c.in_ok-head.head.end, (given s _ there).cut)
