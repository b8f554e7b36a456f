-- Each shelf of 64 slots, so each that is read from octets, is the end of a history: the one in which the cards that it holds were put, from the
-- first slot on.
-- Assumes nothing.
use Prim.Native.Nat.{ℕ, zero, suc, ◌<◌, ◌≤◌}
use native.Mathlib.Decide.{ℕ_discrete}
use native.Mathlib.Omega.{arith}
use mathlib.Core.Path.{◌≡◌, refl, sym, ap, subst⁻¹, ◌∙◌}
use mathlib.Core.Logic.{◌≢◌}
use Rattle.std.proofs.Common.{Some, None}
use lib.ListN.{get_or-replicate}
use lib.Seq.{ext_get_or}
use Rattle.shelf.specs.Shelves.{Slot, greater_slot, blank, holding, slot_at}
use Rattle.shelf.specs.declared.Shelf.{Shelf}
use Rattle.shelf.specs.History.{Tidy}
use Rattle.shelf.proofs.Slots.{blank-greater}
use Rattle.shelf.proofs.Laws.{shelf, put_same, put_other}
use Rattle.queue.specs.History.{History, start, put, shelf_of}
use Rattle.queue.proofs.Histories.{tidy}

-- the card of a slot is put, if it holds one
abbrev pub put_if : ℕ → Slot → History → History
put_if n None h = h
put_if n (Some c) h = put n c h

-- those of the first n slots
unfoldable pub cards_put : ℕ → Shelf → History
cards_put zero s = start
cards_put (suc n) s = put_if n (slot_at s n) (cards_put n s)

-- another slot stays
other-slot : (n k : ℕ) (x : Slot) (h : History) → k ≢ n → slot_at (shelf_of (put_if n x h)) k ≡ slot_at (shelf_of h) k
unfolding shelf_of
other-slot n k None h d = refl
other-slot n k (Some c) h d = put_other (shelf_of h) n k c d

-- and this one, which was blank, holds that card, or stays blank
this-slot : (n : ℕ) (x : Slot) (h : History) → n < 64 → slot_at (shelf_of h) n ≡ blank → slot_at (shelf_of (put_if n x h)) n ≡ x
unfolding shelf_of
this-slot n None h l b = b
this-slot n (Some c) h l b =
    put_same (shelf_of h) n c (tidy h).long l
    ∙ ap (λ (y : Slot). greater_slot y (holding c)) b
    ∙ blank-greater c

-- the first n slots are the shelf's, and the others blank
abbrev FirstAre : ℕ → Shelf → ℕ → Type 0
FirstAre n s k = (k < n → slot_at (shelf_of (cards_put n s)) k ≡ slot_at s k) × (n ≤ k → slot_at (shelf_of (cards_put n s)) k ≡ blank)

first-are : (s : Shelf) → Tidy s → (n : ℕ) → n ≤ 64 → (k : ℕ) → k < 64 → FirstAre n s k
unfolding cards_put shelf_of
first-are s t zero h k l = ((λ below. absurd (omega arith)), λ _. get_or-replicate 64 k blank blank l)
first-are s t (suc n) h k l = by-slot (first-are s t n (omega arith)) (ℕ_discrete k n)
  where
    by-slot : ((k : ℕ) → k < 64 → FirstAre n s k) → Dec (k ≡ n) → FirstAre (suc n) s k
    by-slot before (yes e) = (
      (λ below. subst⁻¹ (λ (m : ℕ). slot_at (shelf_of (cards_put (suc n) s)) m ≡ slot_at s m) e
          (this-slot n (slot_at s n) (cards_put n s) (omega arith) ((before n (omega arith)).1 (omega arith)))),
      (λ above. absurd (omega arith)),
    )
    by-slot before (no d) =
        let same = other-slot n k (slot_at s n) (cards_put n s) d in
        ((λ below. same ∙ (before k l).0 (omega arith)), λ above. same ∙ (before k l).1 (omega arith))

pub tidy-is-history : (s : Shelf) → Tidy s → shelf_of (cards_put 64 s) ≡ s
tidy-is-history s t =
    let long = (tidy (cards_put 64 s)).long in
    ap shelf
    (ext_get_or blank (shelf_of (cards_put 64 s)).slots s.slots (long ∙ sym t.long)
    (λ n l. let below : n < 64 = omega (arith, long) in (first-are s t 64 (omega arith) n below).0 below))
