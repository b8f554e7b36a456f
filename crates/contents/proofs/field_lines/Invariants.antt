-- `field_lines`: the fields that the loop has passed are written.
-- Assumes nothing.
use mathlib.Core.Path.{◌≡◌}
use Rattle.lent.specs.Rows.{in_turn}
use Rattle.lent.specs.Writers.{writes}
use Rattle.contents.specs.Contents.{line_of}
use Rattle.std.specs.Prelude.{Ok}
use Rattle.message.specs.Walk.{told}
use Rattle.contents.proofs.field_lines.Given as goal

abbrev pub invariant-loop-k : goal.invariant-loop-k
invariant-loop-k l = l.out ≡ writes l.initial.out (in_turn (line_of l.message (told (Ok l.fields))) 0 l.k)
