-- `read`: each way out.
-- Assumes nothing.
use Rattle.field.proofs.Reading.{one_refused, three_refused, fourth_refused, last_refused, all_read}
use Rattle.field.proofs.read.Goals as goal

pub returns-in_default : goal.returns-in_default
returns-in_default c = one_refused _ _ _ _ _ _ (rw c.unwrap_err.ensures at c.read-one.ensures)

pub returns-in_default-three : goal.returns-in_default-three
returns-in_default-three c = three_refused _ _ _ _ _ _ c.in-Ok.ensures _ (rw c.unwrap_err-in_default-three.ensures at c.read-three.ensures)

pub returns-in_default-four : goal.returns-in_default-four
returns-in_default-four c = fourth_refused _ _ _ _ _ _ c.in-Ok.ensures _ c.in-Ok-three.ensures _ (rw c.unwrap_err-in_default-four.ensures at c.read-four.ensures)

pub returns-in_default-five : goal.returns-in_default-five
returns-in_default-five c = last_refused _ _ _ _ _ _ c.in-Ok.ensures _ c.in-Ok-three.ensures _ c.in-Ok-four.ensures _ (rw c.unwrap_err-in_default-five.ensures at c.read_packing-five.ensures)

pub returns : goal.returns
returns c = all_read _ _ _ _ _ _ c.in-Ok.ensures _ c.in-Ok-three.ensures _ c.in-Ok-four.ensures _ c.in-Ok-five.ensures
