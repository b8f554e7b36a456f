-- Document 01's starred examples of sections 5 and 7 hold of the definitions, and the sections 5 that are short or long.
-- Assumes nothing.
use mathlib.Core.Path.{refl}
use Rattle.octets.specs.Octets.{part, be, be_at, digits, sign_of}
use Rattle.layout.specs.Fields.{between, placed, values_of, lowest_bad}
use Rattle.layout.specs.Outcomes.{first_of, opening_reasons, total_reasons, fitting_reasons, template_reasons, and_then}
use Rattle.layout.specs.Examples.{AllAgree}
use Rattle.lent.specs.Rows.{each_from}
use Rattle.unpacking.specs.Packed.{bit_at, bits_from, packed_at, unpacked}
use Rattle.packing.specs.Section5.{fields₅, as_simple, outcome₅}
use Rattle.packing.specs.Section7.{fields₇alone, outcome₇}
use Rattle.packing.specs.Unpacking.{unpack_outcome, row_after}
use Rattle.packing.specs.Examples.{starred_packing, short_or_long₅}

pub packing-agrees : AllAgree starred_packing × AllAgree short_or_long₅
unfolding AllAgree part be be_at digits sign_of between placed values_of lowest_bad first_of opening_reasons total_reasons fitting_reasons template_reasons and_then unpacked each_from packed_at bits_from bit_at fields₅ as_simple outcome₅ fields₇alone outcome₇ unpack_outcome row_after
packing-agrees = ((refl, (refl, (refl, (refl, (refl, tt))))), (refl, (refl, (refl, (refl, tt)))))
