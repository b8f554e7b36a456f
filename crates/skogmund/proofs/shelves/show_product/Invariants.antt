-- `show_product`: the octets that are left, written into the row as it is now, make the row of all.
-- Assumes nothing.
use mathlib.Core.List.{map}
use lib.IntN.{pos}
use Rattle.lent.proofs.Rows.{Going}
use Rattle.skogmund.proofs.shelves.show_product.Given as goal

abbrev pub invariant-loop-i : goal.invariant-loop-i
invariant-loop-i l = Going l.initial.values 8 (map pos l.fn.product) l.values l.i
