-- `octets`: those that the loop has passed are written.
-- Assumes nothing.
use Rattle.std.proofs.Common.{◌≡◌}
use lib.ListN.{take}
use Rattle.lent.specs.Writers.{writes}
use Rattle.lent.proofs.Writer.octets.Given as goal

abbrev pub invariant-loop-octet : goal.invariant-loop-octet
invariant-loop-octet l = l.self ≡ writes l.initial.self (take l.octet-index l.octets)
