-- `explanation_buffer`: the length by its law, since so many zeros are not counted one by one.
-- Assumes nothing.
use mathlib.Core.Path.{refl, sym}
use Prim.Native.Nat.{ℕ}
use lib.ListN.{length-replicate}
use Rattle.report.proofs.explanation_buffer.Goals as goal

pub returns : goal.returns
returns c = (refl, sym (length-replicate {0} {A = ℕ} 2163200 0))
