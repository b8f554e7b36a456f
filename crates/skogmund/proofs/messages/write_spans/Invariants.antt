-- `write_spans`: the fields that are left, written into the row as it is now, make the row of all.
-- Assumes nothing.
use Prim.Native.Nat.{ℕ, ◌-◌}
use mathlib.Core.Path.{refl}
use mathlib.Core.List.{List}
use Rattle.message.specs.Walk.{Cut}
use Rattle.message.specs.Messages.{field_of}
use Rattle.skogmund.specs.Messages.{field_spans}
use Rattle.skogmund.proofs.Spans.{Telling}
use Rattle.std.specs.Prelude.{Ok}
use Rattle.message.specs.Walk.{told}
use Rattle.skogmund.proofs.messages.write_spans.Given as goal

abbrev pub spans-in : Cut → ℕ → List ℕ
spans-in cut k = field_spans (field_of cut k)

abbrev pub invariant-loop-k : goal.invariant-loop-k
invariant-loop-k l = Telling (spans-in (told (Ok l.fn.fields))) (λ k. refl) l.initial.spans l.fn.fields.count l.spans l.k
