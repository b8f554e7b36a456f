-- `read_into`: where the section is refused, the row stays; where it is read and there are places, its record stands in them.
-- Assumes nothing.
use native.Mathlib.Omega.{arith}
use Rattle.std.proofs.lemmas.Result.{err_from_is_err_and}
use Rattle.values.proofs.RecordRead.{check_refused, put_there}
use Rattle.values.proofs.read_into.Goals as goal

pub returns-in_err-check : goal.returns-in_err-check
returns-in_err-check c = let e = err_from_is_err_and c.from_residual.result c.from_residual.ensures.1 in rw (e.1, e.2) (check_refused _ _ _ c.in_err-check.ensures)

pub returns : goal.returns
returns c = put_there _ _ _ c.in_ok-check.ensures (omega (arith, c.if-values-lt64.false)) c.put_record.ensures
