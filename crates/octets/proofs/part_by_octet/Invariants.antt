-- `part_by_octet`: after i turns the first i octets are those from octet `at` on.
-- Assumes nothing.
use Rattle.std.proofs.Common.{◌≡◌, take, length}
use Rattle.octets.specs.Octets.{part}
use Rattle.octets.proofs.part_by_octet.Given as goal

abbrev pub invariant-loop-i : goal.invariant-loop-i
invariant-loop-i g l = (length l.part ≡ g.row.N) × (take l.i l.part ≡ part l.s l.at l.i)
