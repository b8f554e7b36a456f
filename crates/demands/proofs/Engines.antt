-- Request 04: what unpacks takes one octet at a time and carries the bits that are left over; the form that takes one bit at a time stays beside
-- it, and they are the same. What is promised of unpacking sections 5 and 7, `Unpacks`, is as it was: Demand2 has it, word for word.
-- Assumes nothing.
use Prim.Native.Nat.{ℕ, ◌*◌, ◌≤◌, ◌<◌}
use mathlib.Core.Path.{◌≡◌, ◌∙◌, refl, ap, sym}
use mathlib.Core.List.{List, ◌++◌}
use mathlib.Core.Bool.{Bool, true, false, cond}
use lib.ListN.{length, get_or, drop, replicate}
use lib.Dec.{leb}
use Rattle.octets.specs.Octets.{be_at}
use Rattle.lent.proofs.Rows.{length-each}
use Rattle.unpacking.specs.Packed.{bits_from, packed_at, unpacked}
use Rattle.unpacking.specs.Filled.{filled}
use Rattle.unpacking.proofs.Filled.{narrow, wide}
use Rattle.unpacking.proofs.SpareBits.{missing-octets}
use Rattle.packing.specs.Unpacking.{Unpacks}
use Rattle.std.specs.Prelude.{Ok}
use Rattle.demands.proofs.Demand2.{unpacking-means, unpacked-means}
-- ".. prove the two equal for every N and every width": whatever the octets, also where some are missing, and whatever the row held. Of the two
-- engines, and of the plain one and what `packing` calls, by what the check reads from their code
pub use Rattle.unpacking.proofs.SameRow.{plain-and-carrying, plain-and-called}

-- ---- what each of them leaves: `filled`, as their entries say (Demand1's `unpacking-entries`)

-- number k in it is what the bits from k x bits on stand for, the most significant first
pub engine-means : (bits : ℕ) (packed row : List ℕ) (k : ℕ) → bits ≤ 32 → k < length row → get_or (filled bits packed row) k 0 ≡ bits_from packed (k * bits) bits
engine-means bits packed row k h l =
    ap (λ (later : List ℕ). get_or later k 0) (narrow bits packed row h) ∙ unpacked-means bits (length row) k packed l

-- it has as many places as the row
pub engine-keeps-length : (bits : ℕ) (packed row : List ℕ) → length (filled bits packed row) ≡ length row
unfolding filled unpacked
engine-keeps-length bits packed row = either (leb bits 32)
  where
    either : (t : Bool) → length (cond t (unpacked bits (length row) packed) row) ≡ length row
    either true = length-each 0 (packed_at bits packed) 0 (length row)
    either false = refl

-- octets that are missing count as 0
pub engine-missing-octets : (bits k : ℕ) (packed row : List ℕ) → filled bits (packed ++ replicate k 0) row ≡ filled bits packed row
unfolding filled
engine-missing-octets bits k packed row =
    ap (λ (numbers : List ℕ). cond (leb bits 32) numbers row) (missing-octets bits (length row) k packed)

-- a width of more than 32 bits leaves the row as it was
pub engine-too-wide : (bits : ℕ) (packed row : List ℕ) → 32 < bits → filled bits packed row ≡ row
engine-too-wide = wide

-- "Its promise stays as it is": where sections 5 and 7 are unpacked, the row holds what the plain engine, too, would leave of the octets from octet
-- 6 on. "Refusals: none new": it is refused as its table lists (Demand1's `unpacking-refuses`), which is as it was
pub unpacking-is-plain : (s5 s7 row later : List ℕ) (n : ℕ) → Unpacks s5 s7 row (Ok n) later → later ≡ filled (be_at s5 20 1) (drop 5 s7) row
unpacking-is-plain s5 s7 row later n u =
    let m = unpacking-means s5 s7 row later n u in
    m.4
    ∙ ap (λ (places : ℕ). unpacked (be_at s5 20 1) places (drop 5 s7)) (sym m.3)
    ∙ sym (narrow (be_at s5 20 1) (drop 5 s7) row m.1.bits)
