-- What a slot holds is never less after cards were put, and no less than each card that was put to it; so the shelf is none whose slot holds
-- less than that card, the empty one among them.
-- Assumes nothing.
use mathlib.Core.Path.{◌≡◌, sym, ap, subst, subst⁻¹, ◌∙◌}
use mathlib.Core.Bool.{true, false, true≢false}
use mathlib.Core.List.Memᴰ
use mathlib.Core.List.{List, [], ◌∷◌, Memᴰ}
use mathlib.Core.Logic.{◌⊎◌, inl, inr, ◌≢◌}
use Prim.Native.Nat.{ℕ, ◌<◌, ◌≤◌}
use native.Mathlib.Decide.{ℕ_discrete, dec_le}
use native.Mathlib.Omega.{arith}
use lib.ListN.{length, length-set, get_or-replicate}
use lib.Seq.{set_out}
use Rattle.card.specs.declared.Card.{Card}
use Rattle.card.proofs.Strict.{not-trans, max-least-left, max-least-right}
use Rattle.shelf.specs.declared.Shelf.{Shelf}
use Rattle.shelf.specs.Shelves.{Slot, less_slot, greater_slot, blank, holding, slot_at, empty_shelf, put_shelf}
use Rattle.shelf.proofs.CardHistory.{file_all}
use Rattle.shelf.proofs.Slots.{slot-strict, blank-below}
use Rattle.shelf.proofs.Laws.{shelf, put_same, put_other}

-- ---- one card

pub put-takes : (s : Shelf) (n : ℕ) (c : Card) → length s.slots ≡ 64 → n < 64 → less_slot (slot_at (put_shelf s n c) n) (holding c) ≡ false
unfolding greater_slot
put-takes s n c long h = rw (put_same s n c long h) (max-least-right slot-strict (slot_at s n) (holding c))

put_keeps : (s : Shelf) (n : ℕ) (c : Card) (k : ℕ) (x : Slot) → length s.slots ≡ 64 → less_slot (slot_at s k) x ≡ false → less_slot (slot_at (put_shelf s n c) k) x ≡ false
unfolding greater_slot
put_keeps s n c k x long h = by-slot (ℕ_discrete k n) (dec_le 64 n)
  where
    here : n < 64 → less_slot (slot_at s n) x ≡ false → less_slot (slot_at (put_shelf s n c) n) x ≡ false
    here l h = rw (put_same s n c long l) (not-trans slot-strict x (slot_at s n) _ h (max-least-left slot-strict (slot_at s n) (holding c)))

    by-slot : Dec (k ≡ n) → Dec (64 ≤ n) → less_slot (slot_at (put_shelf s n c) k) x ≡ false
    by-slot (no d) there = rw (put_other s n k c d) h
    by-slot (yes e) (yes l) = subst⁻¹ (λ (y : Shelf). less_slot (slot_at y k) x ≡ false) (ap shelf (set_out s.slots n _ (omega arith))) h
    by-slot (yes e) (no d) =
        subst⁻¹ (λ (m : ℕ). less_slot (slot_at (put_shelf s n c) m) x ≡ false) e (here (omega arith) (subst (λ (m : ℕ). less_slot (slot_at s m) x ≡ false) e h))

-- ---- one after the other

file-keeps : (q : List (ℕ × Card)) (s : Shelf) (k : ℕ) (x : Slot) → length s.slots ≡ 64 → less_slot (slot_at s k) x ≡ false → less_slot (slot_at (file_all q s) k) x ≡ false
unfolding file_all
file-keeps [] s k x long h = h
file-keeps (e ∷ q) s k x long h =
    file-keeps q (put_shelf s e.0 e.1) k x (length-set s.slots e.0 _ ∙ long) (put_keeps s e.0 e.1 k x long h)

pub file-takes : (q : List (ℕ × Card)) (s : Shelf) (n : ℕ) (c : Card) → length s.slots ≡ 64 → n < 64 → Memᴰ (n, c) q → less_slot (slot_at (file_all q s) n) (holding c) ≡ false
unfolding file_all
file-takes [] s n c long h m = absurd (Memᴰ.not-nil m)
file-takes (e ∷ q) s n c long h m = by_place (file-takes q (put_shelf s e.0 e.1) n c (length-set s.slots e.0 _ ∙ long) h) (Memᴰ.cases_cons m)
  where
    first : less_slot (slot_at (file_all q (put_shelf s n c)) n) (holding c) ≡ false
    first = file-keeps q (put_shelf s n c) n (holding c) (length-set s.slots n _ ∙ long) (put-takes s n c long h)

    by_place : (Memᴰ (n, c) q → less_slot (slot_at (file_all q (put_shelf s e.0 e.1)) n) (holding c) ≡ false)
        → ((n, c) ≡ e) ⊎ Memᴰ (n, c) q → less_slot (slot_at (file_all q (put_shelf s e.0 e.1)) n) (holding c) ≡ false
    by_place rest (inl p) = subst (λ (e : ℕ × Card). less_slot (slot_at (file_all q (put_shelf s e.0 e.1)) n) (holding c) ≡ false) p first
    by_place rest (inr m) = rest m

-- ---- which shelves that is not

pub another-shelf : (s after : Shelf) (n : ℕ) (c : Card) → less_slot (slot_at s n) (holding c) ≡ true → less_slot (slot_at after n) (holding c) ≡ false → after ≢ s
another-shelf s after n c below above e = true≢false (sym below ∙ subst (λ (y : Shelf). less_slot (slot_at y n) (holding c) ≡ false) e above)

pub not-empty : (after : Shelf) (n : ℕ) (c : Card) → n < 64 → less_slot (slot_at after n) (holding c) ≡ false → after ≢ empty_shelf
not-empty after n c h =
    another-shelf empty_shelf after n c
    (subst⁻¹ (λ (x : Slot). less_slot x (holding c) ≡ true) (get_or-replicate 64 n blank blank h) (blank-below c))
