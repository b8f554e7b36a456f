-- A row that is written one place after the other.
-- Assumes nothing.
use mathlib.Core.Path.{◌≡◌, refl, ap, sym, subst, ◌∙◌}
use mathlib.Core.List.{List, [], ◌∷◌, ◌++◌, append-nil, append_assoc}
use Prim.Native.Nat.{ℕ, zero, suc, ◌+◌, ◌-◌, ◌≤◌, ◌<◌}
use native.Mathlib.Nat.{add-zero, add-suc, suc-add, zero-add, lt_irrefl, not-suc-le-zero, le_of_suc-le-suc}
use native.Mathlib.Numerals.{add-one}
use native.Mathlib.Omega.{arith}
use lib.ListN.{length, get_or, set, take, drop, length-set, length-drop, drop_of_length-le}
use lib.Seq.{take_all, sets, sets-eq, drop-cons, ext_get_or, get_or-set_same, get_or-set_other}
use borrow.Author.Count.{below_more}
use Rattle.lent.specs.Lent.{over}
use Rattle.lent.specs.Rows.{each_from, in_turn}

-- ---- by a function of the index; `d` is what stands past the end

module _ {A : Type 0} (d : A) (f : ℕ → A) where
  -- the first n places have their values
  abbrev pub Filled : List A → ℕ → Type 0
  Filled row n = (j : ℕ) → j < n → get_or row j d ≡ f j

  pub length-each : (i n : ℕ) → length (each_from f i n) ≡ n
  unfolding each_from
  length-each i zero = refl
  length-each i (suc n) = ap suc (length-each (suc i) n)

  pub each_at : (i n j : ℕ) → j < n → get_or (each_from f i n) j d ≡ f (i + j)
  unfolding each_from
  each_at i zero j h = absurd (not-suc-le-zero h)
  each_at i (suc n) zero h = rw add-zero
  each_at i (suc n) (suc j) h = rw (each_at (suc i) n j (le_of_suc-le-suc h), add-suc, suc-add)

  pub each-filled : (n : ℕ) → Filled (each_from f 0 n) n
  each-filled n j h = rw (each_at 0 n j h, zero-add)

  -- a row whose every place has its value is the whole
  pub all-filled : (row : List A) (count n : ℕ) → Filled row count → count ≡ length row → length row ≡ n → row ≡ each_from f 0 n
  all-filled row count n h e l =
      ext_get_or d row (each_from f 0 n) (l ∙ sym (length-each 0 n))
      (λ i m. h i (omega arith) ∙ sym (each-filled n i (omega arith)))

  -- one more place
  pub filled-set : (row : List A) (n : ℕ) (v : A) → n < length row → v ≡ f n → Filled row n → Filled (set row n v) (n + 1)
  filled-set row n v l e h =
      below_more (λ (j : ℕ). get_or (set row n v) j d ≡ f j) n
      (λ j b. get_or-set_other row n j v d (λ q. lt_irrefl n (subst (λ (k : ℕ). k < n) q b)) ∙ h j b)
      (get_or-set_same row n v d l ∙ e)

-- two functions that agree
pub each_same : {A : Type 0} (d : A) (f g : ℕ → A) (n : ℕ) → ((j : ℕ) → j < n → f j ≡ g j) → each_from f 0 n ≡ each_from g 0 n
each_same d f g n h = all-filled d g (each_from f 0 n) n n (λ j l. each-filled d f n j l ∙ h j l) (sym (length-each d f 0 n)) (length-each d f 0 n)

-- lists of numbers in turn, and that of the next one
from_any : {A : Type 0} (f : ℕ → List A) (i n : ℕ) → in_turn f i (suc n) ≡ in_turn f i n ++ f (i + n)
unfolding in_turn
from_any f i zero = append-nil (f i) ∙ ap f (sym (add-zero i))
from_any f i (suc n) =
    let next : suc i + n ≡ i + suc n = omega arith in
    ap (λ l. f i ++ l) (from_any f (suc i) n) ∙ sym (append_assoc (f i) (in_turn f (suc i) n) (f (suc i + n))) ∙ ap (λ k. (f i ++ in_turn f (suc i) n) ++ f k) next

pub in_turn-last : {A : Type 0} (f : ℕ → List A) (n : ℕ) → in_turn f 0 (n + 1) ≡ in_turn f 0 n ++ f n
in_turn-last f n = ap (in_turn f 0) (add-one n) ∙ from_any f 0 n ∙ ap (λ k. in_turn f 0 n ++ f k) (zero-add n)

-- ---- by the values of a list

module _ {A : Type 0} where
  -- values, and others behind them
  pub sets-both : (vs ws row : List A) (i : ℕ) → sets (sets row i vs) (i + length vs) ws ≡ sets row i (vs ++ ws)
  sets-both [] ws row i = ap (λ (k : ℕ). sets row k ws) (add-zero i)
  sets-both (v ∷ vs) ws row i = ap (λ (k : ℕ). sets (sets (set row i v) (suc i) vs) k ws) (omega arith) ∙ sets-both vs ws (set row i v) (suc i)

  pub sets_over : (vs row : List A) → length vs ≤ length row → sets row 0 vs ≡ over row vs
  sets_over vs row h = sets-eq vs row 0 (omega arith) ∙ ap (λ (k : ℕ). vs ++ drop k row) (zero-add (length vs))

  -- the first place written last
  pub first-over : (v : A) (vs row : List A) → length vs < length row → set (sets row 1 vs) 0 v ≡ over row (v ∷ vs)
  first-over v vs [] h = absurd (omega arith)
  first-over v vs (x ∷ row) h =
      let next : 1 + length vs ≡ suc (length vs) = omega arith in
      ap (λ (l : List A). set l 0 v) (sets-eq vs (x ∷ row) 1 (omega arith))
      ∙ ap (λ (k : ℕ). v ∷ (vs ++ drop k (x ∷ row))) next

  -- as many values as there are places
  pub over-whole : (vs row : List A) → length vs ≡ length row → over row vs ≡ vs
  over-whole vs row e = ap (λ (l : List A). vs ++ l) (drop_of_length-le row {i = length vs} (omega arith)) ∙ append-nil vs

-- a loop that writes them from place `at` on: after i turns those that are left, written into the row as it is now, make the row of all
pub record Going {A : Type 0} (row₀ : List A) (at : ℕ) (vs row : List A) (i : ℕ) : Type 0 where
  pub within : i ≤ length vs
  pub long : length row ≡ length row₀
  pub left : sets row (at + i) (drop i vs) ≡ sets row₀ at vs

module _ {A : Type 0} (row₀ : List A) (at : ℕ) (vs : List A) where
  pub begins : Going row₀ at vs row₀ 0
  begins = record { within = omega arith; long = refl; left = ap (λ (k : ℕ). sets row₀ k vs) (add-zero at) }

  -- place k is the next one
  pub goes_on : (row : List A) (i k : ℕ) (v d : A) → Going row₀ at vs row i → i < length vs → k ≡ at + i → v ≡ get_or vs i d → Going row₀ at vs (set row k v) (i + 1)
  goes_on row i k v d g h p e =
      let next : at + (i + 1) ≡ suc (at + i) = omega arith in
      record {
        within = omega arith;
        long = length-set row k v ∙ g.long;
        left =
            (λ j. sets (set row (p j) (e j)) (next j) (drop (add-one i j) vs))
            ∙ sym (ap (sets row (at + i)) (drop-cons vs i d h))
            ∙ g.left;
      }

  pub ends : (row : List A) (i : ℕ) → Going row₀ at vs row i → length vs ≤ i → row ≡ sets row₀ at vs
  ends row i g h = sym (ap (sets row (at + i)) (drop_of_length-le vs {i = i} h)) ∙ g.left

-- as many values as there are places, from the first on
pub ends-whole : {A : Type 0} (row₀ vs row : List A) (i : ℕ) → Going row₀ 0 vs row i → length vs ≤ i → length vs ≡ length row₀ → row ≡ vs
ends-whole row₀ vs row i g h e = ends row₀ 0 vs row i g h ∙ sets_over vs row₀ (omega arith) ∙ over-whole vs row₀ e
