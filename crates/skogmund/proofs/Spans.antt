-- A row that is written some places at a time, from its start on.
-- Assumes nothing.
use Prim.Native.Nat.{ℕ, zero, suc, ◌+◌, ◌-◌, ◌*◌, ◌≤◌, ◌<◌}
use native.Mathlib.Omega.{arith}
use native.Mathlib.Nat.{add-zero}
use native.Mathlib.Numerals.{add-one}
use mathlib.Core.Path.{◌≡◌, refl, ap, sym, ◌∙◌}
use mathlib.Core.Bool.{Bool, true, false}
use mathlib.Core.List.{List, ◌++◌, append-nil, append_assoc}
use lib.Dec.{leb}
use lib.ListN.{length, take, drop, length-append, length-drop, drop_of_length-le}
use lib.Seq.{sets, sets-eq, length-sets, take_all, take_at, drop_at, take-append-le, drop-append-le, drop-drop}
use borrow.Author.Tests.{le-leb}
use borrow.Rule.Slice.PartMut.{put_mid}
use Rattle.lent.specs.Lent.{Done, done, over, if_room}
use Rattle.lent.specs.Rows.{in_turn}
use Rattle.lent.proofs.Rows.{sets-both, sets_over}

-- ---- numbers into a part of a row, from place `at` on, where there is room for them

module _ (row ns later : List ℕ) (at : ℕ) (fits : at + length ns ≤ length row) where
  abbrev part : List ℕ
  part = take (length row - at) (drop at row)

  whole : part ≡ drop at row
  whole = take_all (length row - at) (drop at row) (omega (arith, length-drop at row))

  pub part-written : {r : Bool} → done r later ≡ if_room true false (leb (length ns) (length part)) (over part ns) part → put_mid at (length row - at) row later ≡ sets row at ns
  part-written e =
      let room : leb (length ns) (length part) ≡ true = le-leb (length ns) (length part) (omega (arith, ap length whole, length-drop at row)) in
      let written : later ≡ over part ns = ap (λ (x : Done Bool (List ℕ)). x.lent) (rw room at e) in
      let none = drop_of_length-le (drop at row) {i = length row - at} (omega (arith, length-drop at row)) in
      ap (put_mid at (length row - at) row) written
      ∙ (λ i. take at row ++ ((ns ++ drop (length ns) (whole i)) ++ none i))
      ∙ ap (λ (l : List ℕ). take at row ++ l) (append-nil (ns ++ drop (length ns) (drop at row)))
      ∙ ap (λ (l : List ℕ). take at row ++ (ns ++ l)) (drop-drop (length ns) at row)
      ∙ sym (append_assoc (take at row) ns (drop (at + length ns) row))
      ∙ sym (sets-eq ns row at fits)

-- ---- ten numbers a turn

module _ (f : ℕ → List ℕ) (ten : (k : ℕ) → length (f k) ≡ 10) where
  pub turns-long : (i n : ℕ) → length (in_turn f i n) ≡ 10 * n
  unfolding in_turn
  turns-long i zero = refl
  turns-long i (suc n) = omega (arith, length-append (f i) (in_turn f (suc i) n), ten i, turns-long (suc i) n)

  -- after i turns those that are left, written into the row as it is now, make the row of all
  pub record Telling (row₀ : List ℕ) (n : ℕ) (row : List ℕ) (i : ℕ) : Type 0 where
    pub turns : i ≤ n
    pub long : length row ≡ length row₀
    pub left : sets row (10 * i) (in_turn f i (n - i)) ≡ sets row₀ 0 (in_turn f 0 n)

  pub told_none : (row₀ : List ℕ) (n : ℕ) → Telling row₀ n row₀ 0
  told_none row₀ n =
      let all : n - 0 ≡ n = omega arith in
      record { turns = omega arith; long = refl; left = ap (λ (k : ℕ). sets row₀ 0 (in_turn f 0 k)) all }

  pub told-one : (row₀ : List ℕ) (n : ℕ) (row later : List ℕ) (i : ℕ) → Telling row₀ n row i → i < n → later ≡ sets row (10 * i) (f i) → Telling row₀ n later (i + 1)
  unfolding in_turn
  told-one row₀ n row later i t h e =
      let more : n - i ≡ suc (n - (i + 1)) = omega arith in
      let next : 10 * i + length (f i) ≡ 10 * (i + 1) = omega (arith, ten i) in
      let rest = in_turn f (suc i) (n - (i + 1)) in
      record {
        turns = omega arith;
        long = ap length e ∙ length-sets row (10 * i) (f i) ∙ t.long;
        left =
            (λ j. sets (e j) (sym next j) (in_turn f (add-one i j) (n - (i + 1))))
            ∙ sets-both (f i) rest row (10 * i)
            ∙ sym (ap (λ (k : ℕ). sets row (10 * i) (in_turn f i k)) more)
            ∙ t.left;
      }

  pub told-all : (row₀ : List ℕ) (n : ℕ) (row : List ℕ) (i : ℕ) → Telling row₀ n row i → n ≤ i → 10 * n ≤ length row₀ → row ≡ over row₀ (in_turn f 0 n)
  unfolding in_turn
  told-all row₀ n row i t h room =
      let none : n - i ≡ 0 = omega arith in
      sym (ap (λ (k : ℕ). sets row (10 * i) (in_turn f i k)) none) ∙ t.left ∙ sets_over (in_turn f 0 n) row₀ (omega (arith, turns-long 0 n))

  -- the ten of turn k, counted from i
  turn_at : (i n k : ℕ) → k < n → take 10 (drop (10 * k) (in_turn f i n)) ≡ f (i + k)
  unfolding in_turn
  turn_at i zero k h = absurd (omega arith)
  turn_at i (suc n) zero h = take_at (f i) (in_turn f (suc i) n) 10 (ten i) ∙ ap f (sym (add-zero i))
  turn_at i (suc n) (suc k) h =
      let rest = in_turn f (suc i) n in
      let further : 10 * suc k ≡ 10 + 10 * k = omega arith in
      let index : suc i + k ≡ i + suc k = omega arith in
      ap (λ (j : ℕ). take 10 (drop j (f i ++ rest))) further
      ∙ sym (ap (take 10) (drop-drop (10 * k) 10 (f i ++ rest)))
      ∙ ap (λ (l : List ℕ). take 10 (drop (10 * k) l)) (drop_at (f i) rest 10 (ten i))
      ∙ turn_at (suc i) n k (omega arith)
      ∙ ap f index

  -- in a row that begins with those of all turns, and what it has behind them
  pub told_at : (row : List ℕ) (n k : ℕ) → k < n → take 10 (drop (10 * k) (over row (in_turn f 0 n))) ≡ f k
  told_at row n k h =
      let all = in_turn f 0 n in
      let rest = drop (length all) row in
      let long = turns-long 0 n in
      let index : 0 + k ≡ k = omega arith in
      ap (take 10) (drop-append-le (10 * k) all rest (omega (arith, long)))
      ∙ take-append-le 10 (drop (10 * k) all) rest (omega (arith, long, length-drop (10 * k) all))
      ∙ turn_at 0 n k h
      ∙ ap f index

  pub told-past : (row : List ℕ) (n : ℕ) → drop (10 * n) (over row (in_turn f 0 n)) ≡ drop (10 * n) row
  told-past row n =
      let all = in_turn f 0 n in
      drop_at all (drop (length all) row) (10 * n) (turns-long 0 n) ∙ ap (λ (k : ℕ). drop k row) (turns-long 0 n)
