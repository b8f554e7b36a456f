use Rattle.std.proofs.Common.{◌≤◌}
use Rattle.cases.proofs.lines.decimal.Given as goal

abbrev pub invariant-loop-c : goal.invariant-loop-c
invariant-loop-c l = l.value ≤ 5000000000
