-- Sections that have not their total: by one octet, of as many octets as a section may have, and with another reason to refuse them beside it. Each has
-- its number, section and place.
-- Assumes nothing.
use Rattle.std.specs.Prelude.{List, ◌++◌}
use Rattle.layout.specs.Examples.{Example}
use Rattle.identification.specs.Examples.{short_or_long₁}
use Rattle.grid.specs.Examples.{short_or_long₃}
use Rattle.product.specs.Examples.{short_or_long₄}
use Rattle.packing.specs.Examples.{short_or_long₅}

-- of section 4 those by one octet are starred
abbrev pub short_or_long : List Example
short_or_long = short_or_long₁ ++ (short_or_long₃ ++ (short_or_long₄ ++ short_or_long₅))
