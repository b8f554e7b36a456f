-- `read`: a message that is refused by its frame has no fields to be read.
-- Assumes nothing.
use mathlib.Core.Path.{sym, ap, ◌∙◌}
use Rattle.std.proofs.lemmas.Result.{err_from_is_err_and}
use Rattle.message.specs.Walk.{Cut}
use Rattle.message.proofs.FrameAndFields.{frame-first}
use Rattle.message.proofs.read.Goals as goal

pub returns-in_err-fields : goal.returns-in_err-fields
returns-in_err-fields c =
    let e = err_from_is_err_and c.from_residual.result c.from_residual.ensures.1 in
    let frame = c.in_err-fields.ensures in
    rw (e.1, e.2) (frame ∙ sym (frame-first c.args.message.now (ap (λ (c : Cut). c.count) (sym frame))))
