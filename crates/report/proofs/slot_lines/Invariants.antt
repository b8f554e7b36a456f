-- `slot_lines`: the slots that the loop has passed are written.
-- Assumes nothing.
use mathlib.Core.Path.{◌≡◌}
use Prim.Native.Nat.{ℕ}
use Rattle.lent.specs.Rows.{in_turn}
use Rattle.lent.specs.Writers.{writes}
use Rattle.shelf.specs.Shelves.{slot_at}
use Rattle.report.specs.Texts.{slot_line}
use Rattle.report.proofs.slot_lines.Given as goal

abbrev pub invariant-loop-i : goal.invariant-loop-i
invariant-loop-i l = l.out ≡ writes l.initial.out (in_turn (λ (n : ℕ). slot_line n (slot_at l.shelf n)) 0 l.i)
