-- What each way out of `unpack` comes to, over plain lists.
-- Assumes nothing.
use Prim.Native.Nat.{ℕ, ◌≤◌}
use native.Mathlib.Omega.{arith}
use mathlib.Core.Path.{◌≡◌, refl, ap, sym, ◌∙◌}
use mathlib.Core.List.{List}
use lib.ListN.{length, get_or, drop}
use borrow.Author.Tests.{eq-eqb, ne_eqb}
use Rattle.std.specs.Prelude.{Result, Ok, Err}
use Rattle.std.specs.Result.{IsErrAnd}
use Rattle.layout.specs.Fields.{Value, none, placed, values_of, natural_in}
use Rattle.layout.specs.Outcomes.{read, refused_by, told, first_of, and_then, refusal}
use Rattle.layout.specs.declared.Refusal.{Refusal}
use Rattle.unpacking.specs.Packed.{unpacked}
use Rattle.unpacking.specs.Filled.{filled}
use Rattle.unpacking.proofs.Filled.{narrow}
use Rattle.packing.specs.Section5.{fields₅, values_at, bits_at, outcome₅, values_in₅}
use Rattle.packing.specs.Section7.{outcome₇, values_in₇}
use Rattle.packing.specs.Unpacking.{unpack_outcome, row_after, Unpacks}
use Rattle.packing.specs.declared.Packing.{Packing}
use Rattle.packing.specs.declared.DataSection.{DataSection}
use Rattle.packing.proofs.AcceptedExactlyWhen.{accepted-follows₅, accepted-follows₇}

-- what a caller needs of a record that was read
pub record Known (five : List ℕ) (x : Packing) : Type 0 where
  pub values : x.values ≡ values_at five
  pub bits : x.bits ≡ bits_at five
  pub narrow : x.bits ≤ 32

pub known : (five : List ℕ) (x : Packing) → outcome₅ five ≡ read (values_in₅ x) → Known five x
unfolding values_in₅ fields₅ placed values_of
known five x e =
    let f = accepted-follows₅ five (values_in₅ x) e in
    let bits : x.bits ≡ bits_at five = ap (λ (vs : List Value). natural_in (get_or vs 7 none)) f.1 in
    record { values = ap (λ (vs : List Value). natural_in (get_or vs 2 none)) f.1; bits = bits; narrow = rw bits f.0.bits }

module _ (five seven row : List ℕ) where
  -- a refusal is handed on, by `?` too, and the row stays
  handed : (x : Refusal) (r : Result ℕ Refusal) → unpack_outcome five seven row ≡ refused_by x → IsErrAnd r (λ y. y ≡ x) → Unpacks five seven row r row
  unfolding row_after
  handed x (Err y) e h = record { answers = rw h (sym e); leaves = rw e }
  handed x (Ok n) e h = absurd h

  pub five_refused : (x : Refusal) (r : Result ℕ Refusal) → told values_in₅ (Err x) ≡ outcome₅ five → IsErrAnd r (λ y. y ≡ x) → Unpacks five seven row r row
  unfolding unpack_outcome and_then
  five_refused x r e = handed x r (rw (← e))

  module _ (packing : Packing) (e : told values_in₅ (Ok packing) ≡ outcome₅ five) where
    -- what a caller needs of it
    five-known : Known five packing
    five-known = known five packing (sym e)

    pub seven_refused : (x : Refusal) (r : Result ℕ Refusal) → told values_in₇ (Err x) ≡ outcome₇ packing.values packing.bits seven → IsErrAnd r (λ y. y ≡ x) → Unpacks five seven row r row
    unfolding unpack_outcome and_then
    seven_refused x r f = let k = five-known in handed x r (rw (← e, ← k.values, ← k.bits, ← f))

    module _ («data» : DataSection) (f : told values_in₇ (Ok «data») ≡ outcome₇ packing.values packing.bits seven) where
      pub five_there : 5 ≤ length seven
      five_there = omega (arith, (accepted-follows₇ _ _ _ _ (sym f)).0.whole)

      pub row_refused : (length row ≡ packing.values → ⊥) → Unpacks five seven row (Err (refusal 18 0 0)) row
      unfolding unpack_outcome and_then first_of
      row_refused h = let k = five-known in handed (refusal 18 0 0) (Err (refusal 18 0 0)) (rw (← e, ← k.values, ← k.bits, ← f, ne_eqb _ _ h)) refl

      -- otherwise the row holds the numbers
      pub all_written : (later : List ℕ) → length row ≡ packing.values → later ≡ filled packing.bits (drop 5 seven) row → Unpacks five seven row (Ok packing.values) later
      unfolding row_after unpack_outcome and_then first_of
      all_written later l w =
          let k = five-known in
          let numbers : later ≡ unpacked packing.bits packing.values (drop 5 seven) = w ∙ narrow _ _ row k.narrow ∙ ap (λ (n : ℕ). unpacked packing.bits n (drop 5 seven)) l in
          record { answers = rw (← e, ← k.values, ← k.bits, ← f, eq-eqb _ _ l); leaves = rw (← e, ← k.values, ← k.bits, ← f, eq-eqb _ _ l) numbers }
