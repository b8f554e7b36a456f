-- The engines leave the same row, for every width of at most 32 bits, every number of places and all packed octets, also where octets are missing.
-- Assumes nothing.
use mathlib.Core.Path.{◌≡◌, ◌∙◌, sym}
use mathlib.Core.List.{List}
use Prim.Native.Nat.{ℕ, ◌≤◌}
use lib.ListN.{length}
use Rattle.unpacking.specs.Packed.{unpacked}
use Rattle.unpacking.specs.Filled.{filled}
use Rattle.unpacking.specs.SameRow.{SameRow}
use Rattle.unpacking.proofs.Filled.{narrow}
use Rattle.unpacking.proofs as code

-- what a row held before makes no difference, so long as it has as many places
same_row : (bits : ℕ) (xs one two : List ℕ) → bits ≤ 32 → length one ≡ length two → filled bits xs one ≡ filled bits xs two
same_row bits xs one two h e =
    narrow bits xs one h ∙ (λ i. unpacked bits (e i) xs) ∙ sym (narrow bits xs two h)

by-promise : (bits bits' : ℕ) (xs xs' one two after later : List ℕ) → after ≡ filled bits xs one → later ≡ filled bits' xs' two → xs ≡ xs' → bits ≡ bits' → bits ≤ 32 → length one ≡ length two → after ≡ later
by-promise bits bits' xs xs' one two after later p q x b h l =
    p ∙ same_row bits xs one two h l ∙ (λ i. filled (b i) (x i) two) ∙ sym q

-- the plain one and the one that carries
pub plain-and-carrying : SameRow code.bits.unpack_bits.Reads.Learnt code.carrying.unpack_octets.Reads.Learnt (λ given. given.0.now) (λ given. given.1.0) (λ given. given.1.1.0.now) (λ later. later.1.1.0.now)
plain-and-carrying lent lent' given given' r r' later later' = by-promise _ _ _ _ _ _ _ _

-- the plain one and what `packing` calls
pub plain-and-called : SameRow code.bits.unpack_bits.Reads.Learnt code.unpack.Reads.Learnt (λ given. given.0.now) (λ given. given.1.0) (λ given. given.1.1.0.now) (λ later. later.1.1.0.now)
plain-and-called lent lent' given given' r r' later later' = by-promise _ _ _ _ _ _ _ _
