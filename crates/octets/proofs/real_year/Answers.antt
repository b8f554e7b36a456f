-- `octets::real_year` meets its contract: two numbers of 16 bits keep the sum far within 32 bits.
-- Assumes nothing.
use Prim.Native.Nat.{◌<◌, ◌^◌}
use mathlib.Core.Path.{◌∙◌}
use lib.IntN.{nat_abs, pos, ◌+ℤ◌, ◌*ℤ◌}
use Rattle.octets.proofs.Signs.{sign-abs, shift_fits, year-fits, year-is}
use Rattle.octets.proofs.real_year.Goals as goal

pub overflow_mul-result : goal.overflow_mul-result
overflow_mul-result c =
    let year-small : nat_abs c.signed16.result < 2 ^ 15 = rw c.signed16.ensures (sign-abs 2 c.args.year c.ranges.year.fits) in
    let offset-small : nat_abs c.signed16-2.result < 2 ^ 15 = rw c.signed16-2.ensures (sign-abs 2 c.args.offset c.ranges.offset.fits) in
    shift_fits c.signed16.result c.signed16-2.result (year-small) (offset-small)

pub overflow_add-result : goal.overflow_add-result
overflow_add-result c =
    let year-small : nat_abs c.signed16.result < 2 ^ 15 = rw c.signed16.ensures (sign-abs 2 c.args.year c.ranges.year.fits) in
    let offset-small : nat_abs c.signed16-2.result < 2 ^ 15 = rw c.signed16-2.ensures (sign-abs 2 c.args.offset c.ranges.offset.fits) in
    year-fits c.signed16.result c.signed16-2.result (year-small) (offset-small)

pub returns : goal.returns
returns c =
    let year-small : nat_abs c.signed16.result < 2 ^ 15 = rw c.signed16.ensures (sign-abs 2 c.args.year c.ranges.year.fits) in
    let offset-small : nat_abs c.signed16-2.result < 2 ^ 15 = rw c.signed16-2.ensures (sign-abs 2 c.args.offset c.ranges.offset.fits) in
    year-is c.signed16.result c.signed16-2.result (year-small) (offset-small) ∙ (λ i. c.signed16.ensures i +ℤ pos 10000 *ℤ c.signed16-2.ensures i)
