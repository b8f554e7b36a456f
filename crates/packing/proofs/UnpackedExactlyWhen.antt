-- A row is written exactly when sections 5 and 7 follow and it has N places; then it holds the N numbers, and N is answered.
-- Assumes nothing.
use Prim.Native.Nat.{ℕ, zero, suc, ◌*◌, ◌<◌}
use native.Mathlib.Omega.{arith}
use mathlib.Core.Path.{◌≡◌, refl, sym, ap, ◌∙◌}
use mathlib.Core.Logic.{◌↔◌}
use mathlib.Core.List.{List, [], ◌∷◌}
use lib.ListN.{length, drop, replicate}
use Rattle.lent.specs.Rows.{each_from}
use Rattle.layout.specs.Fields.{Value, plain}
use Rattle.layout.specs.Outcomes.{Outcome, refused, read, and_then, first_of}
use Rattle.layout.proofs.Outcomes.{NoneHold, read_none}
use Rattle.layout.proofs.Ranges.{test-same, same_test}
use Rattle.unpacking.specs.Packed.{bit_at, bits_from, packed_at, unpacked}
use Rattle.packing.specs.Section5.{outcome₅, values_at, bits_at}
use Rattle.packing.specs.Section7.{outcome₇}
use Rattle.packing.specs.Accepted.{Follows₅, Follows₇}
use Rattle.packing.specs.Unpacking.{unpack_outcome, row_by, row_after, Unpacks}
use Rattle.std.specs.Prelude.{Ok}
use Rattle.packing.proofs.AcceptedExactlyWhen.{accepted-follows₅, follows-accepted₅, accepted-follows₇, follows-accepted₇}
use Rattle.unpacking.proofs.SpareBits.{spare}

and-read : (a b : Outcome) (vs : List Value) → and_then a b ≡ read vs → ((us : List Value) × (a ≡ read us)) × (b ≡ read vs)
unfolding and_then
and-read (refused number section place) b vs e = let z : ◌≡◌ {A = ℕ} 0 1 = cc in absurd (omega arith)
and-read (read us) b vs e = ((us, refl), e)

module _ (five seven row : List ℕ) where
  -- sections 5 and 7 follow, and the row has N places
  abbrev Fits : Type 0
  Fits = Follows₅ five × Follows₇ (values_at five) (bits_at five) seven × (length row ≡ values_at five)

  unpacked-fits : (vs : List Value) → unpack_outcome five seven row ≡ read vs → Fits × (vs ≡ plain (values_at five) ∷ [])
  unfolding unpack_outcome NoneHold
  unpacked-fits vs e =
      let a = and-read (outcome₅ five) _ vs e in
      let b = and-read (outcome₇ (values_at five) (bits_at five) seven) _ vs a.1 in
      let c = read_none 0 _ (read (plain (values_at five) ∷ [])) vs b.1 in
      let same = c.1 in (
        (
          (accepted-follows₅ five a.0.0 a.0.1).0,
          (accepted-follows₇ (values_at five) (bits_at five) seven b.0.0 b.0.1).0,
          test-same _ _ c.0.0,
        ),
        cc,
      )

  fits-unpacked : Fits → unpack_outcome five seven row ≡ read (plain (values_at five) ∷ [])
  unfolding unpack_outcome and_then first_of
  fits-unpacked f = rw (follows-accepted₅ five f.0, follows-accepted₇ (values_at five) (bits_at five) seven f.1, same_test _ _ f.2)

  pub unpacked-exactly-when : ((vs : List Value) × (unpack_outcome five seven row ≡ read vs)) ↔ (Follows₅ five × Follows₇ (values_at five) (bits_at five) seven × (length row ≡ values_at five))
  unpacked-exactly-when = ((λ a. (unpacked-fits a.0 a.1).0), (λ f. (plain (values_at five) ∷ [], fits-unpacked f)))

  -- what is answered and left where it is written
  pub written : (n : ℕ) (later : List ℕ) → Unpacks five seven row (Ok n) later
      → (n ≡ values_at five) × Follows₅ five × Follows₇ (values_at five) (bits_at five) seven × (length row ≡ values_at five) × (later ≡ unpacked (bits_at five) (values_at five) (drop 5 seven))
  unfolding row_after
  written n later u =
      let whole = sym u.answers in
      let f = unpacked-fits (plain n ∷ []) whole in
      let same = f.1 in
      (cc, f.0.0, f.0.1, f.0.2, u.leaves ∙ ap (λ (o : Outcome). row_by o row (unpacked (bits_at five) (values_at five) (drop 5 seven))) whole)

-- ---- of the row that is left

-- two sections 7 whose first N x bits bits are the same, from octet 6 on: spare bits are not looked at
pub spare-ignored : (five seven seven' row row' later later' : List ℕ) (n n' : ℕ) → Unpacks five seven row (Ok n) later → Unpacks five seven' row' (Ok n') later'
    → ((k : ℕ) → k < values_at five * bits_at five → bit_at (drop 5 seven) k ≡ bit_at (drop 5 seven') k) → later ≡ later'
spare-ignored five seven seven' row row' later later' n n' u u' h =
    (written five seven row n later u).4
    ∙ spare (bits_at five) (values_at five) (drop 5 seven) (drop 5 seven') h
    ∙ sym (written five seven' row' n' later' u').4

-- numbers of no bits are zeros
no_bits : (xs : List ℕ) (i n : ℕ) → each_from (packed_at 0 xs) i n ≡ replicate n 0
unfolding each_from packed_at bits_from
no_bits xs i zero = refl
no_bits xs i (suc n) = ap (λ (l : List ℕ). 0 ∷ l) (no_bits xs (suc i) n)

pub width-0-zeros : (five seven row later : List ℕ) (n : ℕ) → Unpacks five seven row (Ok n) later → bits_at five ≡ 0 → later ≡ replicate (values_at five) 0
unfolding unpacked
width-0-zeros five seven row later n u e =
    (written five seven row n later u).4
    ∙ ap (λ (bits : ℕ). unpacked bits (values_at five) (drop 5 seven)) e
    ∙ no_bits (drop 5 seven) 0 (values_at five)
