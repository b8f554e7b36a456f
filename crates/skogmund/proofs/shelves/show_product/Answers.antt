-- `show_product`: the octets that are left, written into the row as it is now, make the row of all.
-- Assumes nothing.
use Prim.Native.Nat.{◌+◌}
use native.Mathlib.Omega.{arith}
use mathlib.Core.Path.{◌≡◌, refl, sym, ap, ◌∙◌}
use mathlib.Core.List.{List, map}
use lib.IntN.{pos}
use lib.ListN.{length, length-map, get_or-map}
use lib.Seq.{sets}
use borrow.Author.Rules.{rules}
use Rattle.octets.specs.Octets.{part}
use Rattle.octets.proofs.Laws.{part-all}
use Rattle.octets.proofs.Signs.{kept64}
use Rattle.lent.proofs.Rows.{begins, goes_on, ends}
use Rattle.skogmund.proofs.shelves.show_product.Goals as goal

pub bounds-values-i : goal.bounds-values-i
bounds-values-i c = omega (arith, c.loop-i.invariant.long, c.requires)

pub loop-i-preserved : goal.loop-i-preserved
loop-i-preserved c =
    let length-is : length c.args.product ≡ 27 = search rules in
    let l = c.loop-i in
    let p = c.args.product in
    goes_on _ 8 _ l.values l.i (8 + l.i) _ (pos 0) l.invariant (omega (arith, length-is, length-map p pos)) refl
    (kept64 _ c.from.type_inv ∙ c.from.ensures ∙ sym (get_or-map pos p l.i 0))

pub returns : goal.returns
returns c =
    let length-is : length c.args.product ≡ 27 = search rules in
    let l = c.loop-i in
    let p = c.args.product in
    let all : part p 1 27 ≡ p = rw (length-is) at (part-all p) in
    ends c.args.values.now 8 (map pos p) l.values l.i l.invariant (omega (arith, length-is, length-map p pos))
    ∙ ap (λ (o : List _). sets c.args.values.now 8 (map pos o)) (sym all)

pub loop-i-init : goal.loop-i-init
loop-i-init c = begins _ _ _

pub shape_of-values : goal.shape_of-values
shape_of-values c = c.loop-i.invariant.long
