-- `skogmund_read`: what `read_into` answers, as one number.
-- Assumes nothing.
use Prim.Native.Nat.{ℕ}
use mathlib.Core.Path.{ap, sym, ◌∙◌}
use mathlib.Core.List.{List}
use lib.IntN.{ℤ}
use Rattle.layout.specs.Outcomes.{Check}
use Rattle.lent.specs.Lent.{Done, done}
use Rattle.values.proofs.RecordRead.{place-within}
use Rattle.skogmund.specs.Entries.{in_one_number, record_told}
use Rattle.skogmund.proofs.skogmund_read.Goals as goal

pub returns-in-Ok : goal.returns-in-Ok
unfolding record_told
returns-in-Ok c = ap (λ (x : Done Check (List ℤ)). in_one_number x) c.in-Ok.ensures

pub code-requires : goal.code-requires
code-requires c =
    let a = c.args in
    place-within a.section a.s.now a.values.now _ (sym (ap (λ (x : Done Check (List ℤ)). x.answer) c.in-Err.ensures))

pub returns-in-Err : goal.returns-in-Err
unfolding record_told
returns-in-Err c = ap (λ (n : ℕ). done n c.read_into.new.values) c.code.ensures ∙ ap (λ (x : Done Check (List ℤ)). in_one_number x) c.in-Err.ensures
