-- `write_slots`: the slots that the loop has passed are written.
-- Assumes nothing.
use mathlib.Core.Path.{◌≡◌}
use Prim.Native.Nat.{ℕ}
use Rattle.lent.specs.Rows.{in_turn}
use Rattle.lent.specs.Writers.{writes}
use Rattle.shelf.specs.Shelves.{slot_at}
use Rattle.shelf_octets.specs.ShelfOctets.{octets_of_slot}
use Rattle.shelf_octets.proofs.write_slots.Given as goal

abbrev pub invariant-loop-slot : goal.invariant-loop-slot
invariant-loop-slot l = l.out ≡ writes l.initial.out (in_turn (λ (n : ℕ). octets_of_slot (slot_at l.fn.shelf n)) 0 l.slot-index)
