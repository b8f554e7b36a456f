-- `read_packing`: each way out.
-- Assumes nothing.
use Rattle.std.proofs.lemmas.Result.{err_from_is_err_and}
use Rattle.field.proofs.Reading.{five_refused, points_differ, seven_refused, both_read}
use Rattle.field.proofs.read_packing.Goals as goal

pub returns-in_err-packing : goal.returns-in_err-packing
returns-in_err-packing c = let e = err_from_is_err_and c.from_residual.result c.from_residual.ensures.1 in rw (e.1, e.2) (five_refused _ _ _ c.in_err-packing.field-0.0 c.in_err-packing.ensures)

pub returns-then-packing-points : goal.returns-then-packing-points
returns-then-packing-points c = rw c.of.ensures (points_differ _ _ _ _ c.in_ok-packing.ensures c.if-packing-points.true)

pub returns-in_err-read_data : goal.returns-in_err-read_data
returns-in_err-read_data c = let r = c.from_residual-in_err-read_data in let e = err_from_is_err_and r.result r.ensures.1 in rw (e.1, e.2) (seven_refused _ _ _ _ c.in_ok-packing.ensures c.if-packing-points.false c.in_err-read_data.field-0.0 c.in_err-read_data.ensures)

pub returns : goal.returns
returns c = both_read _ _ _ _ c.in_ok-packing.ensures c.if-packing-points.false _ c.in_ok-read_data.ensures
