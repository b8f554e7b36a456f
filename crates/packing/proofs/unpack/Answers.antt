-- `unpack`: each way out is one of those of `Unpacks`.
-- Assumes nothing.
use Rattle.std.proofs.lemmas.List.{take_rest}
use Rattle.packing.proofs.Unpacks.{five_refused, seven_refused, row_refused, all_written}
use Rattle.packing.proofs.unpack.Goals as goal

pub returns-in_err-packing : goal.returns-in_err-packing
returns-in_err-packing c = five_refused _ _ _ _ _ c.in_err-packing.ensures c.from_residual.ensures.1

pub returns-in_err-read_data : goal.returns-in_err-read_data
returns-in_err-read_data c = seven_refused _ _ _ _ c.in_ok-packing.ensures _ _ c.in_err-read_data.ensures c.from_residual-in_err-read_data.ensures.1

pub returns-then-row-packing : goal.returns-then-row-packing
returns-then-row-packing c = rw c.of.ensures (row_refused _ _ _ _ c.in_ok-packing.ensures _ c.in_ok-read_data.ensures c.if-row-packing.true)

pub returns : goal.returns
returns c = all_written _ _ _ _ c.in_ok-packing.ensures _ c.in_ok-read_data.ensures _ c.if-row-packing.false (rw take_rest at c.unpack.ensures)
