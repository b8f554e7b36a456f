-- Request 10, "Twelve is dead", sentence by sentence.
-- Assumes nothing.

-- "Ni and Nj are 32-bit numbers and not all ones, so their product is below 2 to the 64th. Show that": of octets; that neither is all ones is not
-- needed. So what 12 was for (`grid/specs/Twelve.antt`) never holds of a section of octets, and the outcome with 12 and the outcome without it are
-- the same: "the order of the others stays". Over whole numbers that are no octets the two differ.
pub use Rattle.grid.proofs.WithoutTwelve.{product-below-64-bits, never-above, same-without-twelve, octets-needed}
-- The rest are the theorems of this file.
use Prim.Native.Nat.{ℕ}
use mathlib.Core.Path.{◌≡◌, refl, sym, ◌∙◌}
use mathlib.Core.Logic.{◌↔◌}
use mathlib.Core.Bool.{true}
use mathlib.Core.List.{List, [], ◌∷◌, map}
use Rattle.octets.specs.Octets.{AllOctets}
use Rattle.layout.specs.Outcomes.{told}
use Rattle.layout.specs.Refusals.{Row}
use Rattle.layout.specs.declared.Refusal.{Refusal}
use Rattle.layout.proofs.Refusals.{lacks, never-listed}
use Rattle.grid.specs.Blocks.{values_in}
use Rattle.grid.specs.Section3.{outcome₃}
use Rattle.grid.specs.Twelve.{outcome_with_twelve}
use Rattle.grid.specs.declared.blocks.Grid.{Grid}
use Rattle.std.specs.Prelude.{Result}
use Rattle.values.specs.Refused.{read_table}
use Rattle.values.proofs.RecordRead.{of-each-table}
use Rattle.demands.specs.Tables.{tables, NoneLists}

-- the reader's contract allows the answers that it allowed with 12, and no others (by `same-without-twelve`)
pub section-3-as-before : (s : List ℕ) (a : Result Grid Refusal) → AllOctets s → (told values_in a ≡ outcome₃ s) ↔ (told values_in a ≡ outcome_with_twelve s)
section-3-as-before s a octets = let same = same-without-twelve s octets in ((λ e. e ∙ sym same), (λ e. e ∙ same))

-- ---- "then take 12 out of code, table and answers", "12 is removed for good": no refusal that a table lists is 12, and each entry refuses as its table
-- lists (demand 1). `Refusal::of` and `Refusal::at` of `layout` hand on the number that their caller names, and no caller here names 12.

none-lists : (number : ℕ) (some : List (List Row)) → map (lacks number) some ≡ map (λ table. true) some → NoneLists number some
none-lists number [] e = tt
none-lists number (table ∷ rest) e =
    let first : lacks number table ≡ true = cc in
    ((λ x l h. never-listed number table x.section first (rw h at l.listed)), none-lists number rest cc)

reading-lacks : (asked : ℕ) → lacks 12 (read_table asked) ≡ true
reading-lacks asked = of-each-table (λ table. lacks 12 table ≡ true) asked refl refl refl refl refl refl

pub twelve-never : (asked : ℕ) → NoneLists 12 (tables asked)
twelve-never asked = none-lists 12 (tables asked) (rw (reading-lacks asked))
