-- Octets that are strung together: two strings of items, and the octets of items one behind the other.
-- Assumes nothing.
use Prim.Native.Nat.{ℕ, ◌≤◌}
use native.Mathlib.Omega.{arith}
use mathlib.Core.Path.{◌≡◌, refl, ap, ap₂, sym, subst, ◌∙◌}
use mathlib.Core.Bool.{true, true≢false}
use mathlib.Core.Logic.{⊎_elim}
use mathlib.Core.List.Memᴰ
use mathlib.Core.List.{List, [], ◌∷◌, ◌++◌, Memᴰ}
use lib.ListN.{length, take, drop, take-append-drop}
use lib.Seq.{drop-append_seam, drop-append-le}
use Rattle.cutting.specs.Cuts.{Step, no_item, item, Cut, in_front, cut_of, strung}
use Rattle.cutting.proofs.Cuts.{Advances, cut-item, cut-stopped, cut-end, by-items, by-cut}

-- an item that is found is the same whatever stands behind it
abbrev pub LooksNoFurther : {A : Type 0} → (List ℕ → Step A) → Type 0
LooksNoFurther step = (p q : List ℕ) (x : _) (end : ℕ) → step p ≡ item x end → step (p ++ q) ≡ item x end

-- octets spell an item: it is what is found where they stand, whatever stands behind them
abbrev pub Spells : {A : Type 0} → (List ℕ → Step A) → List ℕ → A → Type 0
Spells step octets x = (rest : List ℕ) → step (octets ++ rest) ≡ item x (length octets)

-- the items of the one before those of the other
abbrev both : {A : Type 0} → Cut A → Cut A → Cut A
both a b = record { items = a.items ++ b.items; whole = b.whole }

module _ {A : Type 0} (step : List ℕ → Step A) (adv : Advances step) where
  -- where no item stands, the octets are not whole items
  not-whole : (s : List ℕ) → 1 ≤ length s → step s ≡ no_item → (cut_of step s).whole ≡ true → ⊥
  not-whole s l e w = true≢false (sym w ∙ ap (λ (c : Cut A). c.whole) (cut-stopped step adv s l e))

  -- whole items stand before those that are cut behind them
  pub cut-both : LooksNoFurther step → (p q : List ℕ) → (cut_of step p).whole ≡ true → cut_of step (p ++ q) ≡ record { items = (cut_of step p).items ++ (cut_of step q).items; whole = (cut_of step q).whole }
  cut-both same p q w =
      by-items step adv (λ p. (cut_of step p).whole ≡ true → cut_of step (p ++ q) ≡ both (cut_of step p) (cut_of step q))
      (record {
        end = λ w. sym (ap (λ (c : Cut A). both c (cut_of step q)) (cut-end step adv [] (omega arith)));
        stopped = λ s l e w. absurd (not-whole s l e w);
        more = λ s x end e others w.
            let here = cut-item step adv s x end e in
            cut-item step adv (s ++ q) x end (same s q x end e)
            ∙ ap (λ (r : List ℕ). in_front x (cut_of step r)) (drop-append-le end s q (adv s x end e).inside)
            ∙ ap (in_front x) (others (sym (ap (λ (c : Cut A). c.whole) here) ∙ w))
            ∙ sym (ap (λ (c : Cut A). both c (cut_of step q)) here);
      })
      p w

  -- what holds of each item that is found holds of those that are cut
  pub each_item : (P : A → Type 0) → ((s : List ℕ) (x : A) (end : ℕ) → step s ≡ item x end → P x) → (s : List ℕ) (x : A) → Memᴰ x (cut_of step s).items → P x
  each_item P found =
      by-cut step adv (λ s xs. (x : A) → Memᴰ x xs → P x) (λ s x m. absurd (Memᴰ.not-nil m))
      (λ s y end xs e others x m. ⊎_elim (λ same. subst P (sym same) (found s y end e)) (others x) (Memᴰ.cases_cons m))

  module _ (spell : A → List ℕ) where
    -- what is spelled by items one behind the other is cut into these
    pub cut-strung : (xs : List A) → ((x : A) → Memᴰ x xs → Spells step (spell x) x) → cut_of step (strung spell xs) ≡ record { items = xs; whole = true }
    unfolding strung
    cut-strung [] f = cut-end step adv [] (omega arith)
    cut-strung (x ∷ xs) f =
        cut-item step adv (spell x ++ strung spell xs) x (length (spell x)) (f x (Memᴰ.head refl) (strung spell xs))
        ∙ ap (λ (r : List ℕ). in_front x (cut_of step r)) (drop-append_seam (spell x) (strung spell xs))
        ∙ ap (in_front x) (cut-strung xs (λ y m. f y (Memᴰ.tail m)))

    -- and what is cut into whole items is these items' octets, where these are spelled in octets that are as they should be from each item on
    pub strung-cut : (Fine : List ℕ → Type 0) → ((s : List ℕ) (end : ℕ) → Fine s → Fine (drop end s)) → ((s : List ℕ) (x : A) (end : ℕ) → Fine s → step s ≡ item x end → spell x ≡ take end s)
        → (s : List ℕ) → Fine s → (cut_of step s).whole ≡ true → strung spell (cut_of step s).items ≡ s
    unfolding strung
    strung-cut Fine behind octets s fine w =
        by-items step adv (λ s. Fine s → (cut_of step s).whole ≡ true → strung spell (cut_of step s).items ≡ s)
        (record {
          end = λ f w. ap (λ (c : Cut A). strung spell c.items) (cut-end step adv [] (omega arith));
          stopped = λ s l e f w. absurd (not-whole s l e w);
          more = λ s x end e others f w.
              let here = cut-item step adv s x end e in
              ap (λ (c : Cut A). strung spell c.items) here
              ∙ ap₂ (λ (a b : List ℕ). a ++ b) (octets s x end f e) (others (behind s end f) (sym (ap (λ (c : Cut A). c.whole) here) ∙ w))
              ∙ take-append-drop end s;
        })
        s fine w
