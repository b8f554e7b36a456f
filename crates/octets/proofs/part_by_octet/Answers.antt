use Rattle.std.proofs.Common.{rules}
use lib.ListN.{length-set}
use mathlib.Core.Path.{◌∙◌}
use native.Mathlib.Omega.{arith}
use Rattle.octets.proofs.Parts.{more, saturated}
use Rattle.octets.proofs.part_by_octet.Goals as goal

pub loop-i-preserved : goal.loop-i-preserved
loop-i-preserved g c =
    let l = c.loop-i in
    let a = c.args in
    let here = rw c.saturating_add.ensures at c.u8_at.ensures in (
      simp length-set l.invariant.0,
      more a.s.now l.part a.at l.i c.u8_at.result (omega (arith, l.invariant.0, c.loop-i-test.true)) (here ∙ saturated a.s.now a.at l.i _ (search rules)) l.invariant.1,
    )
