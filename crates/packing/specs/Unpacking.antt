-- Unpacking sections 5 and 7 into a lent row: the answer, and the row afterwards.
-- Assumes nothing.
use Rattle.std.specs.Prelude.{ℕ, List, [], ◌∷◌, ◌≡◌, not, length, drop, eqb, Result}
use Rattle.layout.specs.Fields.{Value, plain}
use Rattle.layout.specs.Outcomes.{Outcome, refused, read, told, reason, first_of, and_then}
use Rattle.layout.specs.declared.Refusal.{Refusal}
use Rattle.unpacking.specs.Packed.{unpacked}
use Rattle.packing.specs.Section5.{outcome₅, values_at, bits_at}
use Rattle.packing.specs.Section7.{outcome₇}

-- the refusals of section 5, then of section 7, then 18 where the row has not exactly N places; otherwise N
unfoldable pub unpack_outcome : List ℕ → List ℕ → List ℕ → Outcome
unpack_outcome five seven row =
    and_then (outcome₅ five)
    (and_then (outcome₇ (values_at five) (bits_at five) seven)
    (first_of 0 (reason 18 (not (eqb (length row) (values_at five))) ∷ []) (read (plain (values_at five) ∷ []))))

-- a refusal leaves the row as it was; otherwise it holds the N numbers, packed from octet 6 of section 7 on
abbrev pub row_by : Outcome → List ℕ → List ℕ → List ℕ
row_by (refused number section place) row numbers = row
row_by (read vs) row numbers = numbers

unfoldable pub row_after : List ℕ → List ℕ → List ℕ → List ℕ
row_after five seven row =
    row_by (unpack_outcome five seven row) row (unpacked (bits_at five) (values_at five) (drop 5 seven))

-- ---- what a program's answer says

-- how many numbers were written
abbrev pub written_in : ℕ → List Value
written_in n = plain n ∷ []

-- the whole promise of `unpack`
pub record Unpacks (five seven row : List ℕ) (answer : Result ℕ Refusal) (later : List ℕ) : Type 0 where
  pub answers : told written_in answer ≡ unpack_outcome five seven row
  pub leaves : later ≡ row_after five seven row
