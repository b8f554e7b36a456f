-- Request 03, "Grids with offset rows", sentence by sentence. The definitions in it: no list and the bit (`PointsStand`), a section but for octets 7-10
-- (`OtherPoints`), section 3's outcome as it was before the request and what became of a section that it refused (`Freed`), all of
-- `grid/specs/OffsetRows.antt`; and demand 2's `Follows₃` (`grid/specs/Accepted.antt`), whose `NoList` has the bit in plain words and whose `AList` is as
-- it was. So "accepted exactly when" is demand 2's `section-3-accepted`.
-- Assumes nothing.

-- "Demand 2's definition changes at this place only.": the outcome is what it was without the bit, with a list, and where the points are Ni x Nj; and of
-- every section it is what it was, or 13 was given for Ni x Nj, with the bit and without a list, and the section is read
pub use Rattle.grid.proofs.OffsetRows.{without-the-bit, with-a-list, with-its-product, changed-here-only}
-- "Refusals: 13 is narrowed as said.": it is given exactly where it was, but for these
pub use Rattle.grid.proofs.OffsetRows.{thirteen-narrowed}
-- The rest are the theorems of this file.
use Prim.Native.Nat.{ℕ, ◌+◌, ◌*◌, ◌%◌}
use native.Mathlib.Omega.{arith}
use mathlib.Core.Path.{◌≡◌, refl, sym, ap, subst, ◌∙◌}
use mathlib.Core.Logic.{◌↔◌, ◌⊎◌, inl, inr, ⊎_elim}
use mathlib.Core.Bool.{true}
use mathlib.Core.List.{List}
use lib.ListN.{length}
use borrow.Author.Tests.{eq-eqb, ne_eqb, eqb-false}
use Rattle.octets.specs.Octets.{be_at}
use Rattle.octets.proofs.Laws.{be_at-one}
use Rattle.layout.specs.Fields.{Value}
use Rattle.layout.specs.Outcomes.{Outcome, refused, read, first_of, told}
use Rattle.layout.specs.Totals.{NoLower, RefusedWith}
use Rattle.layout.specs.Examples.{AllAgree}
use Rattle.layout.specs.Refusals.{Row}
use Rattle.layout.specs.declared.Refusal.{Refusal}
use Rattle.layout.proofs.Refusals.{Refuses, lacks}
use Rattle.identification.specs.Section1.{outcome₁}
use Rattle.identification.specs.Refused.{table₁}
use Rattle.identification.proofs.RefusalNumbers.{refuses₁}
use Rattle.grid.specs.Templates.{template_named, base_end, list_count, total}
use Rattle.grid.specs.Points.{sum_of}
use Rattle.grid.specs.Blocks.{values_in}
use Rattle.grid.specs.Section3.{outcome₃}
use Rattle.grid.specs.Accepted.{Follows₃}
use Rattle.grid.specs.OffsetRows.{PointsStand, OtherPoints, outcome_before}
use Rattle.grid.specs.Examples.{offset_rows₃}
use Rattle.grid.specs.declared.blocks.Grid.{Grid}
use Rattle.std.specs.Prelude.{Result, Ok, Err}
use Rattle.grid.specs.declared.templates.Template.{Template}
use Rattle.grid.proofs.AcceptedExactlyWhen.{all-fits, points-without, bit-or-product}
use Rattle.grid.proofs.OffsetRows.{never-13, thirteen-by-the-sum, thirteen-by-the-product, points-stand}
use Rattle.grid.proofs.StarredGrids.{grids-agree}
use Rattle.product.specs.Section4.{outcome₄}
use Rattle.product.specs.Refused.{table₄}
use Rattle.product.proofs.RefusalNumbers.{refuses₄}
use Rattle.unpacking.specs.Packed.{bit_at}
use Rattle.packing.specs.Section5.{outcome₅, values_at, bits_at}
use Rattle.packing.specs.Section7.{outcome₇}
use Rattle.packing.specs.Refused.{table₅, table₇}
use Rattle.packing.proofs.RefusalNumbers.{refuses₅, refuses₇}
use Rattle.field.specs.Field.{FieldOutcome, refused_field, read_field, onward, packed_outcome, field_outcome, field_refusal, told as told_field, refusal_in}
use Rattle.field.specs.declared.WholeField.{WholeField}
use Rattle.field.proofs.RefusalNumbers.{OfSection, OfField, onward-of, field-of}
use Rattle.demands.specs.Accepted.{Accepted}
use Rattle.demands.proofs.Demand2.{section-3-accepted}
use Rattle.demands.proofs.ShortOrLong.{never-refused}

-- ---- "if bit 8 (the lowest) of the scanning mode in octet 72 is set": the last of the octet's eight bits, the most significant first, as section 7 has
-- its bits

eighth : (s : List ℕ) → be_at s 72 1 % 2 ≡ bit_at s (8 * 71 + 7)
unfolding bit_at
eighth s = rw (be_at-one s 72) (omega arith)

pub bit-8 : (s : List ℕ) → PointsStand s ↔ ((be_at s 11 1 ≡ 0) × (bit_at s (8 * 71 + 7) ≡ 1))
bit-8 s = ((λ stand. (stand.no-list, sym (eighth s) ∙ stand.bit)), (λ p. record { no-list = p.0; bit = eighth s ∙ p.1 }))

-- so without a list "the product of Ni and Nj need not be the number of points" there, and has to be elsewhere
pub bit-8-or-product : (template : Template) (s : List ℕ) → Follows₃ template s → be_at s 11 1 ≡ 0 → (bit_at s (8 * 71 + 7) ≡ 1) ⊎ (be_at s 7 4 ≡ be_at s 31 4 * be_at s 35 4)
bit-8-or-product template s f none =
    ⊎_elim (λ bit. inl (sym (eighth s) ∙ bit)) inr
    (bit-or-product s ((all-fits template s f.list).points ∙ points-without template s none))

-- ---- "With that bit set and no list, octets 7-10 stand as they are and 13 isn't given."

-- with others in their place an accepted section is accepted too; and what is read is what they say (`section-3-by-name`)
pub octets-7-10-stand : (template : Template) (s t : List ℕ) (a : Result Grid Refusal) → told values_in a ≡ outcome₃ t → PointsStand s → OtherPoints s t → Follows₃ template s → Accepted (told values_in a)
octets-7-10-stand template s t a e stand other f = (section-3-accepted t a e).1 (template, points-stand s t other stand template f)

pub thirteen-not-given : (s : List ℕ) (a : Result Grid Refusal) → told values_in a ≡ outcome₃ s → PointsStand s → RefusedWith 13 (told values_in a) → ⊥
thirteen-not-given s a e stand = rw e (never-13 s stand)

-- so of a field, whose other sections have no 13

abbrev Other : ℕ → ℕ → ℕ → ℕ → Type 0
Other n number section place = number ≡ n → ⊥

other : (n : ℕ) (o : Outcome) → (RefusedWith n o → ⊥) → OfSection (Other n) o
other n (refused number section place) h = h
other n (read vs) h = tt

lacking : (n : ℕ) (table : List Row) (o : Outcome) → lacks n table ≡ true → Refuses table o → OfSection (Other n) o
lacking n table o l r = other n o (never-refused n table o l r)

not-with : (n : ℕ) (a : Result WholeField Refusal) → (0 ≡ n → ⊥) → OfField (Other n) (told_field a) → (refusal_in a).number ≡ n → ⊥
unfolding told_field
not-with n (Ok x) z h = z
not-with n (Err x) z h = h

pub field-without-13 : (s1 s3 s4 s5 s7 : List ℕ) (a : Result WholeField Refusal) → told_field a ≡ field_outcome s1 s3 s4 s5 s7 → PointsStand s3 → (refusal_in a).number ≡ 13 → ⊥
field-without-13 s1 s3 s4 s5 s7 a e stand =
    not-with 13 a (eqb-false 0 13 refl)
    (subst (OfField (Other 13)) (sym e)
    (field-of (Other 13) s1 s3 s4 s5 s7
    (lacking 13 table₁ (outcome₁ s1) refl (refuses₁ s1)) (other 13 (outcome₃ s3) (never-13 s3 stand))
    (lacking 13 table₄ (outcome₄ s4) refl (refuses₄ s4)) (lacking 13 table₅ (outcome₅ s5) refl (refuses₅ s5)) (eqb-false 14 13 refl)
    (lacking 13 table₇ (outcome₇ (values_at s5) (bits_at s5) s7) refl (refuses₇ (values_at s5) (bits_at s5) s7))))

-- ---- "With a list the sum rule stays.": where no lower refusal is given and the section has its total, 13 exactly when octets 7-10 are not the sum of
-- the list; and without one, exactly when they are not Ni x Nj and the bit is clear

pub sum-rule : (s : List ℕ) (a : Result Grid Refusal) → told values_in a ≡ outcome₃ s → NoLower (told values_in a) → length s ≡ total (template_named s) s → (be_at s 11 1 ≡ 0 → ⊥)
    → RefusedWith 13 (told values_in a) ↔ (be_at s 7 4 ≡ sum_of (base_end (template_named s)) (be_at s 11 1) s (list_count s) → ⊥)
sum-rule s a e n = rw e (thirteen-by-the-sum s (rw e at n))

pub product-rule : (s : List ℕ) (a : Result Grid Refusal) → told values_in a ≡ outcome₃ s → NoLower (told values_in a) → length s ≡ total (template_named s) s → be_at s 11 1 ≡ 0
    → RefusedWith 13 (told values_in a) ↔ ((be_at s 72 1 % 2 ≡ 1 → ⊥) × (be_at s 7 4 ≡ be_at s 31 4 * be_at s 35 4 → ⊥))
product-rule s a e n = rw e (thirteen-by-the-product s (rw e at n))

-- ---- what is accepted now: what was, and what was refused with 13 and has the bit and no list

pub accepted-now : (s : List ℕ) (a : Result Grid Refusal) → told values_in a ≡ outcome₃ s → Accepted (told values_in a) ↔ (Accepted (outcome_before s) ⊎ (PointsStand s × RefusedWith 13 (outcome_before s)))
accepted-now s a e =
    ⊎_elim
    (λ same.
    let said = e ∙ same in (
      (λ x. inl (subst Accepted said x)),
      ⊎_elim (subst Accepted (sym said)) (λ p. absurd (thirteen-not-given s a e p.0 (subst (RefusedWith 13) (sym said) p.1))),
    ))
    (λ f. (
      (λ x. inr (f.stand, subst (RefusedWith 13) (sym f.before) refl)),
      (λ x. subst Accepted (sym (e ∙ f.now)) tt),
    ))
    (changed-here-only s)

-- ---- 14 still compares N, octets 6-9 of section 5, with octets 7-10 of section 3, whatever the bit: where sections 1, 3, 4 and 5 are read, it is given
-- exactly where the two differ

number_of : (a : Result WholeField Refusal) → (refusal_in a).number ≡ (field_refusal (told_field a)).number
unfolding told_field
number_of (Ok x) = refl
number_of (Err x) = refl

module _ (s1 s3 s4 s5 s7 : List ℕ) (one three four five : List Value) (first : outcome₁ s1 ≡ read one) (third : outcome₃ s3 ≡ read three) (fourth : outcome₄ s4 ≡ read four) (fifth : outcome₅ s5 ≡ read five) where
  -- where they are the same, section 7 is left
  seventh : be_at s5 6 4 ≡ be_at s3 7 4 → field_outcome s1 s3 s4 s5 s7 ≡ onward (outcome₇ (values_at s5) (bits_at s5) s7) (λ vs. read_field one three four five)
  unfolding field_outcome packed_outcome onward first_of
  seventh same = simp (first, third, fourth, fifth, eq-eqb _ _ same)

  fourteenth : (be_at s5 6 4 ≡ be_at s3 7 4 → ⊥) → field_outcome s1 s3 s4 s5 s7 ≡ refused_field 14 5 0
  unfolding field_outcome packed_outcome onward first_of
  fourteenth differ = simp (first, third, fourth, fifth, ne_eqb _ _ differ)

  pub fourteen-exactly : (a : Result WholeField Refusal) → told_field a ≡ field_outcome s1 s3 s4 s5 s7 → ((refusal_in a).number ≡ 14) ↔ (be_at s5 6 4 ≡ be_at s3 7 4 → ⊥)
  fourteen-exactly a e =
      let seven = outcome₇ (values_at s5) (bits_at s5) s7 in (
        (λ r same. not-with 14 a (eqb-false 0 14 refl) (subst (OfField (Other 14)) (sym (e ∙ seventh same)) (onward-of (Other 14) seven _ (lacking 14 table₇ seven refl (refuses₇ (values_at s5) (bits_at s5) s7)) (λ vs. tt))) r),
        (λ differ. number_of a ∙ ap (λ (o : FieldOutcome). (field_refusal o).number) (e ∙ fourteenth differ)),
      )

-- ---- and by single sections: each template, the highest bit and the lowest, points above, below and 0, with and without a list

pub offset-cases : AllAgree offset_rows₃
offset-cases = grids-agree.2
