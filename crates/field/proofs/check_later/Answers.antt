-- `check_later`: each way out.
-- Assumes nothing.
use Rattle.std.proofs.lemmas.Result.{err_from_is_err_and}
use Rattle.field.proofs.Reading.{four_refused, packing_refused, later_read}
use Rattle.field.proofs.check_later.Goals as goal

pub returns-in_err-read : goal.returns-in_err-read
returns-in_err-read c = let e = err_from_is_err_and c.from_residual.result c.from_residual.ensures.1 in rw (e.1, e.2) (four_refused _ _ _ _ c.in_err-read.field-0.0 c.in_err-read.ensures)

pub returns-in_err-read_packing : goal.returns-in_err-read_packing
returns-in_err-read_packing c = let r = c.from_residual-in_err-read_packing in let e = err_from_is_err_and r.result r.ensures.1 in rw (e.1, e.2) (packing_refused _ _ _ _ _ c.in_ok-read.ensures c.in_err-read_packing.field-0.0 c.in_err-read_packing.ensures)

pub returns : goal.returns
returns c = later_read _ _ _ _ _ c.in_ok-read.ensures _ c.in_ok-read_packing.ensures
