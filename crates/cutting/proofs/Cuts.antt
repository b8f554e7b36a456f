-- How octets are cut, item by item: what stands behind the first item is cut as if it stood alone.
-- Assumes nothing.
use Prim.Native.Nat.{ℕ, zero, suc, ◌≤◌}
use native.Mathlib.Omega.{arith}
use mathlib.Core.Path.{◌≡◌, refl, ap, ◌∙◌}
use mathlib.Core.Bool.{Bool, true, false, cond}
use mathlib.Core.List.{List, [], ◌∷◌}
use lib.ListN.{length, drop, length-drop}
use borrow.Author.Tests.{eq-eqb, ne_eqb}
use Rattle.cutting.specs.Cuts.{Step, no_item, item, Cut, in_front, first_item, at_end, cut_in, cut_of}

-- ---- what is asked of a step

-- an item that is found has at least one octet, and ends within the octets
pub record EndsWithin (s : List ℕ) (end : ℕ) : Type 0 where
  pub some : 1 ≤ end
  pub inside : end ≤ length s

abbrev pub Advances : {A : Type 0} → (List ℕ → Step A) → Type 0
Advances step = (s : List ℕ) (x : _) (end : ℕ) → step s ≡ item x end → EndsWithin s end

-- ---- how octets are cut by it

-- what holds of no octets, where no item stands, and of octets that start with an item if it holds of what stands behind it
pub record ByItems {A : Type 0} (step : List ℕ → Step A) (P : List ℕ → Type 0) : Type 0 where
  pub end : P []
  pub stopped : (s : List ℕ) → 1 ≤ length s → step s ≡ no_item → P s
  pub more : (s : List ℕ) (x : A) (end : ℕ) → step s ≡ item x end → P (drop end s) → P s

-- by what a step finds: the same where the same is cut behind it
first-same : {A : Type 0} (s : List ℕ) (r : Step A) (f g : List ℕ → Cut A) → ((x : A) (end : ℕ) → r ≡ item x end → f (drop end s) ≡ g (drop end s)) → first_item s r f ≡ first_item s r g
first-same s no_item f g same = refl
first-same s (item x end) f g same = ap (in_front x) (same x end refl)

module _ {A : Type 0} (step : List ℕ → Step A) (adv : Advances step) where
  -- what stands behind an item is shorter
  shorter : (n : ℕ) (s : List ℕ) (x : A) (end : ℕ) → step s ≡ item x end → length s ≤ suc n → length (drop end s) ≤ n
  shorter n s x end e l = let i = adv s x end e in omega (arith, i.some, i.inside, length-drop end s)

  -- that at most so many items are looked at makes no difference, since there are no more items than octets
  same-cut : (m n : ℕ) (s : List ℕ) → length s ≤ m → length s ≤ n → cut_in step m s ≡ cut_in step n s
  unfolding cut_in
  same-cut zero zero s l k = refl
  same-cut zero (suc n) s l k = rw (eq-eqb (length s) 0 (omega arith))
  same-cut (suc m) zero s l k = rw (eq-eqb (length s) 0 (omega arith))
  same-cut (suc m) (suc n) s l k =
      ap (λ (c : Cut A). cond (at_end s) (record { items = []; whole = true }) c)
      (first-same s (step s) (λ rest. cut_in step m rest) (λ rest. cut_in step n rest)
      (λ x end e. same-cut m n (drop end s) (shorter m s x end e l) (shorter n s x end e k)))

  -- ---- the first item, and the rest

  cut-some : (s : List ℕ) → 1 ≤ length s → cut_of step s ≡ first_item s (step s) (cut_of step)
  unfolding cut_of cut_in
  cut-some s l = by_length (length s) refl
    where
      by_length : (n : ℕ) → length s ≡ n → cut_in step (length s) s ≡ first_item s (step s) (cut_of step)
      by_length zero e = absurd (omega arith)
      by_length (suc n) e =
          ap (λ (k : ℕ). cut_in step k s) e
          ∙ ap (λ (t : Bool). cond t (record { items = []; whole = true }) (first_item s (step s) (λ rest. cut_in step n rest))) (ne_eqb (length s) 0 (λ z. omega arith))
          ∙ first-same s (step s) (λ rest. cut_in step n rest) (cut_of step)
          (λ x end f. same-cut n (length (drop end s)) (drop end s) (shorter n s x end f (omega arith)) (omega arith))

  pub cut-item : (s : List ℕ) (x : A) (end : ℕ) → step s ≡ item x end → cut_of step s ≡ in_front x (cut_of step (drop end s))
  cut-item s x end e =
      let i = adv s x end e in
      cut-some s (omega (arith, i.some, i.inside)) ∙ ap (λ (r : Step A). first_item s r (cut_of step)) e

  pub cut-stopped : (s : List ℕ) → 1 ≤ length s → step s ≡ no_item → cut_of step s ≡ record { items = []; whole = false }
  cut-stopped s l e = cut-some s l ∙ ap (λ (r : Step A). first_item s r (cut_of step)) e

  pub cut-end : (s : List ℕ) → length s ≤ 0 → cut_of step s ≡ record { items = []; whole = true }
  unfolding cut_of cut_in
  cut-end s l =
      let nothing : length s ≡ 0 = omega arith in
      ap (λ (k : ℕ). cut_in step k s) nothing ∙ ap (λ (t : Bool). record { items = []; whole = t }) (eq-eqb (length s) 0 nothing)

  -- ---- so what holds by the items of octets holds of all octets

  by_length : (P : List ℕ → Type 0) → ByItems step P → (n : ℕ) (s : List ℕ) → length s ≤ n → P s
  by_length P p zero [] l = p.end
  by_length P p zero (y ∷ s) l = absurd (omega arith)
  by_length P p (suc n) [] l = p.end
  by_length P p (suc n) (y ∷ s) l = by-step (by_length P p n) (step (y ∷ s)) refl
    where
      by-step : ((r : List ℕ) → length r ≤ n → P r) → (r : Step A) → step (y ∷ s) ≡ r → P (y ∷ s)
      by-step others no_item e = p.stopped (y ∷ s) (omega arith) e
      by-step others (item x end) e = p.more (y ∷ s) x end e (others (drop end (y ∷ s)) (shorter n (y ∷ s) x end e l))

  pub by-items : (P : List ℕ → Type 0) → ByItems step P → (s : List ℕ) → P s
  by-items P p s = by_length P p (length s) s (omega arith)

  -- and so what holds of octets and no items, and of an item and those that follow it if it holds of these, holds of the items that are cut
  pub by-cut : (P : List ℕ → List A → Type 0) → ((s : List ℕ) → P s []) → ((s : List ℕ) (x : A) (end : ℕ) (xs : List A) → step s ≡ item x end → P (drop end s) xs → P s (x ∷ xs))
      → (s : List ℕ) → P s (cut_of step s).items
  by-cut P nothing one_more =
      by-items (λ s. P s (cut_of step s).items)
      (record {
        end = rw (cut-end [] (omega arith)) (nothing []);
        stopped = λ s l e. rw (cut-stopped s l e) (nothing s);
        more = λ s x end e others. rw (cut-item s x end e) (one_more s x end _ e others);
      })
