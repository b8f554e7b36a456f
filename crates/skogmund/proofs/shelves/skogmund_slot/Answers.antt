-- `skogmund_slot`: 16, 18, or what the slot holds.
-- Assumes nothing.
use mathlib.Core.Path.{ap, ◌∙◌}
use borrow.Author.Tests.{lt-ltb, le-ltb, eq-eqb, ne_eqb, le-leb, lt-leb}
use Rattle.shelf.specs.Shelves.{Slot}
use Rattle.lent.specs.Lent.{done, with_count}
use Rattle.skogmund.specs.Shelves.{slot_numbers, slot_shown}
use Rattle.skogmund.proofs.shelves.skogmund_slot.Goals as goal

pub returns-then-slot-gt63 : goal.returns-then-slot-gt63
unfolding slot_shown
returns-then-slot-gt63 c = simp (lt-ltb _ _ c.if-slot-gt63.true)

pub returns-then-shelf-ne-SHELF : goal.returns-then-shelf-ne-SHELF
unfolding slot_shown
returns-then-shelf-ne-SHELF c = simp (le-ltb _ _ c.if-slot-gt63.false, ne_eqb _ _ c.if-shelf-ne-SHELF.true)

pub returns-then-values-lt64 : goal.returns-then-values-lt64
unfolding slot_shown
returns-then-values-lt64 c = simp (le-ltb _ _ c.if-slot-gt63.false, eq-eqb _ _ c.if-shelf-ne-SHELF.false, lt-leb _ _ c.if-values-lt64.true)

pub returns : goal.returns
unfolding slot_shown
returns c =
    let a = c.args in
    simp (le-ltb _ _ c.if-slot-gt63.false, eq-eqb _ _ c.if-shelf-ne-SHELF.false, le-leb 64 _ c.if-values-lt64.false)
    (ap (done 0)
    (c.show_slot.ensures
    ∙ ap (λ (x : Slot). with_count (slot_numbers x) a.values.now) c.slot_of-held.ensures))
