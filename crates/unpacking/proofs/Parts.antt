-- Numbers of a part of the octets, written into a part of the row.
-- Assumes nothing.
use mathlib.Core.Path.{◌≡◌, ◌∙◌, ap}
use mathlib.Core.Logic.{inl, inr}
use mathlib.Core.List.{List, ◌++◌}
use Prim.Native.Nat.{ℕ, ◌+◌, ◌-◌, ◌*◌, ◌/◌, ◌%◌, ◌≤◌, ◌<◌}
use native.Mathlib.Nat.{add-mul, mul-le-mul_right}
use native.Mathlib.Omega.{arith}
use lib.ListN.{length, get_or, take, drop, length-take, length-drop, length-append, get_or-append}
use lib.Seq.{get_or-take, get_or-drop}
use Rattle.std.proofs.lemmas.Bool.{cases_lt}
use Rattle.std.proofs.lemmas.List.{get_or-append_right, take_rest}
use borrow.Rule.Slice.PartMut.{put_mid}
use Rattle.lent.proofs.Rows.{each-filled, length-each}
use Rattle.unpacking.specs.Packed.{bit_at, packed_at, unpacked}
use Rattle.unpacking.specs.Standing.{First}
use Rattle.unpacking.specs.Groups.{Grouped}
use Rattle.unpacking.specs.declared.eights.Done.{Done}
use Rattle.unpacking.proofs.Runs.{bits_same, next_place}
use Rattle.unpacking.proofs.Places.{all_places}

-- bit k of the octets from octet t on
bit-behind : (xs : List ℕ) (t k : ℕ) → bit_at (drop t xs) k ≡ bit_at xs (8 * t + k)
unfolding bit_at
bit-behind xs t k =
    let d : (8 * t + k) / 8 ≡ t + k / 8 = omega arith in
    let m : (8 * t + k) % 8 ≡ k % 8 = omega arith in
    rw (d, m, get_or-drop t xs (k / 8) 0)

-- bit k of the first n octets
bit-before : (xs : List ℕ) (n k : ℕ) → k < 8 * n → bit_at (take n xs) k ≡ bit_at xs k
unfolding bit_at
bit-before xs n k h = rw (get_or-take n xs (k / 8) 0 (omega arith))

-- ---- number j of a part that begins where number w does

module _ (bits : ℕ) (xs : List ℕ) (t w j : ℕ) (e : w * bits ≡ 8 * t) where
  begins : (w + j) * bits ≡ 8 * t + j * bits
  begins = omega (arith, add-mul w j bits)

  -- of all the octets that are left
  pub behind_at : packed_at bits (drop t xs) j ≡ packed_at bits xs (w + j)
  unfolding packed_at
  behind_at =
      bits_same (drop t xs) xs (j * bits) ((w + j) * bits) bits
      (λ k l. bit-behind xs t (j * bits + k) ∙ ap (bit_at xs) (omega (arith, begins)))

  -- of n octets, which hold it
  pub part_at : (n : ℕ) → j * bits + bits ≤ 8 * n → packed_at bits (take n (drop t xs)) j ≡ packed_at bits xs (w + j)
  unfolding packed_at
  part_at n h =
      bits_same (take n (drop t xs)) (drop t xs) (j * bits) (j * bits) bits (λ k l. bit-before (drop t xs) n (j * bits + k) (omega arith))
      ∙ behind_at

-- ---- the numbers of a part, behind those that are written

pub written_on : (bits : ℕ) (xs part row ys rest : List ℕ) (w m : ℕ) → First bits xs row w → w ≤ length row → ys ≡ unpacked bits m part
    → length ys ≡ m → ((j : ℕ) → j < m → packed_at bits part j ≡ packed_at bits xs (w + j)) → First bits xs (take w row ++ (ys ++ rest)) (w + m)
unfolding unpacked
written_on bits xs part row ys rest w m first within y long same j h =
    let front : length (take w row) ≡ w = simp length-take (omega arith) in
    elim (cases_lt j w) [
      | inl l ↦ get_or-append (take w row) (ys ++ rest) 0 j (omega (arith, front)) ∙ get_or-take w row j 0 l ∙ first j l
      | inr l ↦
          get_or-append_right (take w row) (ys ++ rest) w j 0 front l
          ∙ get_or-append ys rest 0 (j - w) (omega arith)
          ∙ ap (λ (l : List ℕ). get_or l (j - w) 0) y
          ∙ each-filled 0 (packed_at bits part) m (j - w) (omega arith)
          ∙ same (j - w) (omega arith)
          ∙ ap (packed_at bits xs) (omega arith)
    ]

length-unpacked : (bits n : ℕ) (xs : List ℕ) → length (unpacked bits n xs) ≡ n
unfolding unpacked
length-unpacked bits n xs = length-each 0 (packed_at bits xs) 0 n

-- one group more, of n octets and k places
pub group_on : (bits n k : ℕ) (xs row ys : List ℕ) (done : Done) → Grouped bits xs row done → n ≡ bits → k ≡ 8 → done.written + 8 ≤ length row → done.taken + bits ≤ length xs
    → ys ≡ unpacked bits (length (take k (drop done.written row))) (take n (drop done.taken xs))
    → Grouped bits xs (put_mid done.written k row ys) (record { taken = done.taken + bits; written = done.written + 8 })
group_on bits n k xs row ys done g same eight room there y =
    let w = done.written in
    let t = done.taken in
    let places : length (take k (drop w row)) ≡ 8 = simp (length-take, length-drop) (omega arith) in
    let numbers : ys ≡ unpacked bits 8 (take n (drop t xs)) = y ∙ ap (λ (m : ℕ). unpacked bits m (take n (drop t xs))) places in
    let long : length ys ≡ 8 = ap length numbers ∙ length-unpacked bits 8 (take n (drop t xs)) in
    record {
      first = written_on bits xs (take n (drop t xs)) row ys _ w 8 g.first g.within numbers long (λ j h. part_at bits xs t w j g.whole n (holds j h));
      within = simp (length-append, length-take) (omega (arith, long));
      there = there;
      whole = omega (arith, add-mul w 8 bits, g.whole);
    }
  where
    holds : (j : ℕ) → j < 8 → j * bits + bits ≤ 8 * n
    holds j h =
        let more : j + 1 ≤ 8 = omega arith in
        omega (arith, same, next_place j bits, mul-le-mul_right bits more)

-- the rest behind the groups is all
pub rest_on : (bits n k : ℕ) (xs row ys : List ℕ) (done : Done) → Grouped bits xs row done → n ≡ length xs - done.taken → k ≡ length row - done.written
    → ys ≡ unpacked bits (length (take k (drop done.written row))) (take n (drop done.taken xs))
    → put_mid done.written k row ys ≡ unpacked bits (length row) xs
rest_on bits n k xs row ys done g same all y =
    let w = done.written in
    let t = done.taken in
    let places : length (take k (drop w row)) ≡ k = simp (length-take, length-drop) (omega arith) in
    let octets : take n (drop t xs) ≡ drop t xs = ap (λ (m : ℕ). take m (drop t xs)) same ∙ take_rest xs t in
    let numbers : ys ≡ unpacked bits k (drop t xs) = y ∙ (λ i. unpacked bits (places i) (octets i)) in
    let long : length ys ≡ k = ap length numbers ∙ length-unpacked bits k (drop t xs) in
    let whole : length (put_mid w k row ys) ≡ length row = simp (length-append, length-take, length-drop) (omega (arith, long, g.within)) in
    all_places bits xs (put_mid w k row ys) (w + k) (length row)
    (written_on bits xs (drop t xs) row ys _ w k g.first g.within numbers long (λ j h. behind_at bits xs t w j g.whole))
    (omega (arith, whole, g.within))
    whole
