-- The reading of a field, way out by way out: what its sections' readers answer is told on.
-- Assumes nothing.
use Prim.Native.Nat.{ℕ}
use mathlib.Core.Path.{◌≡◌, sym, ap, ◌∙◌}
use mathlib.Core.List.{List}
use borrow.Author.Tests.{eq-eqb, ne_eqb}
use Rattle.std.specs.Prelude.{Result, Ok, Err}
use Rattle.layout.specs.Fields.{Value}
use Rattle.layout.specs.Outcomes.{Outcome, read, first_of, and_then, refusal, check_of, told as told_by}
use Rattle.layout.specs.declared.Refusal.{Refusal}
use Rattle.identification.specs.Section1.{outcome₁, values_in as values_in₁}
use Rattle.identification.specs.declared.Identification.{Identification}
use Rattle.grid.specs.Blocks.{values_in as values_in₃}
use Rattle.grid.specs.Section3.{outcome₃}
use Rattle.grid.specs.declared.blocks.Grid.{Grid}
use Rattle.product.specs.Blocks.{values_in as values_in₄}
use Rattle.product.specs.Section4.{outcome₄}
use Rattle.product.specs.declared.blocks.Product.{Product}
use Rattle.packing.specs.Section5.{outcome₅, values_in₅}
use Rattle.packing.specs.Section7.{outcome₇, values_in₇}
use Rattle.packing.specs.declared.Packing.{Packing}
use Rattle.packing.specs.declared.DataSection.{DataSection}
use Rattle.packing.proofs.Unpacks.{Known, known}
use Rattle.field.specs.Field.{FieldOutcome, read_field, refused_field, onward, field_outcome, packing_outcome, later_outcome, told}
use Rattle.field.proofs.Later.{rest-onward}

-- ---- sections 5 and 7

module _ (points : ℕ) (s5 s7 : List ℕ) where
  pub five_refused : (x : Refusal) → told_by values_in₅ (Err x) ≡ outcome₅ s5 → told_by values_in₅ (Err x) ≡ packing_outcome points s5 s7
  unfolding packing_outcome and_then
  five_refused x e = rw (← e)

  module _ (packing : Packing) (e : told_by values_in₅ (Ok packing) ≡ outcome₅ s5) where
    five-known : Known s5 packing
    five-known = known s5 packing (sym e)

    pub points_differ : (packing.values ≡ points → ⊥) → told_by values_in₅ (Err (refusal 14 5 0)) ≡ packing_outcome points s5 s7
    unfolding packing_outcome and_then first_of
    points_differ h = let k = five-known in rw (← e, ← k.values, ne_eqb _ _ h)

    pub seven_refused : packing.values ≡ points → (x : Refusal) → told_by values_in₇ (Err x) ≡ outcome₇ packing.values packing.bits s7 → told_by values_in₅ (Err x) ≡ packing_outcome points s5 s7
    unfolding packing_outcome and_then first_of
    seven_refused h x f = let k = five-known in rw (← e, ← k.values, ← k.bits, ← f, eq-eqb _ _ h)

    pub both_read : packing.values ≡ points → (seven : DataSection) → told_by values_in₇ (Ok seven) ≡ outcome₇ packing.values packing.bits s7 → told_by values_in₅ (Ok packing) ≡ packing_outcome points s5 s7
    unfolding packing_outcome and_then first_of
    both_read h seven f = let k = five-known in rw (← e, ← k.values, ← k.bits, ← f, eq-eqb _ _ h)

-- ---- sections 4, 5 and 7

module _ (points : ℕ) (s4 s5 s7 : List ℕ) where
  pub four_refused : (x : Refusal) → told_by values_in₄ (Err x) ≡ outcome₄ s4 → Err x ≡ check_of (later_outcome points s4 s5 s7)
  unfolding later_outcome and_then
  four_refused x e = rw (← e)

  pub packing_refused : (product : Product) → told_by values_in₄ (Ok product) ≡ outcome₄ s4 → (x : Refusal) → told_by values_in₅ (Err x) ≡ packing_outcome points s5 s7 → Err x ≡ check_of (later_outcome points s4 s5 s7)
  unfolding later_outcome and_then
  packing_refused product e x f = rw (← e, ← f)

  pub later_read : (product : Product) → told_by values_in₄ (Ok product) ≡ outcome₄ s4 → (packing : Packing) → told_by values_in₅ (Ok packing) ≡ packing_outcome points s5 s7 → Ok tt ≡ check_of (later_outcome points s4 s5 s7)
  unfolding later_outcome and_then
  later_read product e packing f = rw (← e, ← f)

-- ---- the five

module _ (s1 s3 s4 s5 s7 : List ℕ) where
  pub one_refused : (x : Refusal) → told_by values_in₁ (Err x) ≡ outcome₁ s1 → told (Err x) ≡ field_outcome s1 s3 s4 s5 s7
  unfolding told field_outcome onward
  one_refused x e = rw (← e)

  module _ (identification : Identification) (e : told_by values_in₁ (Ok identification) ≡ outcome₁ s1) where
    pub three_refused : (x : Refusal) → told_by values_in₃ (Err x) ≡ outcome₃ s3 → told (Err x) ≡ field_outcome s1 s3 s4 s5 s7
    unfolding told field_outcome onward
    three_refused x f = rw (← e, ← f)

    module _ (grid : Grid) (f : told_by values_in₃ (Ok grid) ≡ outcome₃ s3) where
      pub fourth_refused : (x : Refusal) → told_by values_in₄ (Err x) ≡ outcome₄ s4 → told (Err x) ≡ field_outcome s1 s3 s4 s5 s7
      unfolding told field_outcome onward
      fourth_refused x g = rw (← e, ← f, ← g)

      module _ (product : Product) (g : told_by values_in₄ (Ok product) ≡ outcome₄ s4) where
        rest : field_outcome s1 s3 s4 s5 s7 ≡ onward (packing_outcome grid.points s5 s7) (read_field (values_in₁ identification) (values_in₃ grid) (values_in₄ product))
        rest = rest-onward s1 s3 s4 s5 s7 _ grid _ (sym e) (sym f) (sym g)

        pub last_refused : (x : Refusal) → told_by values_in₅ (Err x) ≡ packing_outcome grid.points s5 s7 → told (Err x) ≡ field_outcome s1 s3 s4 s5 s7
        unfolding told onward
        last_refused x h = rw (rest, ← h)

        pub all_read : (packing : Packing) → told_by values_in₅ (Ok packing) ≡ packing_outcome grid.points s5 s7 → told (Ok (record { identification = identification; grid = grid; product = product; packing = packing })) ≡ field_outcome s1 s3 s4 s5 s7
        unfolding told onward
        all_read packing h = rw (rest, ← h)
