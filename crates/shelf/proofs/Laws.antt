-- Joining two shelves may be done either way round, in any grouping and twice over with the same outcome; the empty shelf adds nothing; putting a card is joining with the shelf that has only that; and filing a list of cards is joining with the shelf that the list makes from empty.
-- Assumes nothing.
use mathlib.Core.Path.{◌≡◌, sym, ap, ◌∙◌}
use mathlib.Core.Bool.{Bool, true, false}
use mathlib.Core.List.{List, [], ◌∷◌}
use mathlib.Core.Logic.{◌≢◌}
use Prim.Native.Nat.{ℕ, ◌<◌, ◌≤◌}
use native.Mathlib.Decide.{dec_le}
use native.Mathlib.Omega.{arith}
use lib.ListN.{length, set, replicate, length-set, length-replicate, get_or-replicate}
use lib.Dec.{ltb}
use borrow.Author.Tests.{lt-ltb, ltb-true}
use Rattle.std.proofs.lemmas.Bool.{and_parts}
use lib.Seq.{get_or-set_same, get_or-set_other, set-get_or, set_out}
use Rattle.card.specs.declared.Card.{Card}
use Rattle.card.proofs.Strict.{Join, less-apart, max-left, max-right}
use Rattle.shelf.specs.declared.Shelf.{Shelf}
use Rattle.shelf.specs.declared.PutDone.{PutDone}
use Rattle.shelf.specs.Shelves.{Slot, less_slot, greater_slot, blank, holding, slot_at, empty_shelf, put_shelf, put_of, join_shelf}
use Rattle.shelf.specs.History.{Tidy}
use Rattle.shelf.proofs.CardHistory.{file_all}
use Rattle.shelf.proofs.Pointwise.{zip-join, zip_length, zip-at, zip-least, zip-set}
use Rattle.shelf.proofs.Slots.{slot-strict, slot-join, greater-blank, blank-greater}

abbrev pub shelf : List Slot → Shelf
shelf l = record { slots = l }

pub shelf-join : Join join_shelf
shelf-join =
    record {
      comm = λ a b. ap shelf ((zip-join slot-join).comm a.slots b.slots);
      assoc = λ a b c. ap shelf ((zip-join slot-join).assoc a.slots b.slots c.slots);
      idem = λ a. ap shelf ((zip-join slot-join).idem a.slots);
    }

-- ---- what the functions keep

pub tidy-empty : Tidy empty_shelf
tidy-empty = record { long = length-replicate 64 blank }

pub put_same : (s : Shelf) (n : ℕ) (c : Card) → length s.slots ≡ 64 → n < 64 → slot_at (put_shelf s n c) n ≡ greater_slot (slot_at s n) (holding c)
put_same s n c long h = get_or-set_same s.slots n _ blank (omega arith)

pub put_other : (s : Shelf) (n k : ℕ) (c : Card) → k ≢ n → slot_at (put_shelf s n c) k ≡ slot_at s k
put_other s n k c d = get_or-set_other s.slots n k _ blank d

pub join-at : (a b : Shelf) (n : ℕ) → length a.slots ≡ 64 → length b.slots ≡ 64 → n < 64 → slot_at (join_shelf a b) n ≡ greater_slot (slot_at a n) (slot_at b n)
join-at a b n s t h = zip-at greater_slot n a.slots b.slots blank (omega arith) (omega arith)

pub tidy-put : (s : Shelf) (n : ℕ) (c : Card) → Tidy s → Tidy (put_shelf s n c)
tidy-put s n c t = record { long = length-set s.slots n _ ∙ t.long }

pub tidy-join : (a b : Shelf) → Tidy a → Tidy b → Tidy (join_shelf a b)
tidy-join a b s t = record { long = zip_length greater_slot 64 a.slots b.slots s.long t.long }

-- ---- the empty shelf, one card, a list of cards

pub join-empty : (s : Shelf) → Tidy s → join_shelf s empty_shelf ≡ s
join-empty s t = ap shelf (zip-least greater_slot 64 s.slots blank t.long (λ k h. greater-blank (slot_at s k)))

pub put-is-join : (s : Shelf) (n : ℕ) (c : Card) → Tidy s → put_shelf s n c ≡ join_shelf s (put_shelf empty_shelf n c)
put-is-join s n c t = go (dec_le 64 n)
  where
    only : n < 64 → greater_slot (slot_at empty_shelf n) (holding c) ≡ holding c
    only h = ap (λ (z : Slot). greater_slot z (holding c)) (get_or-replicate 64 n blank blank h) ∙ blank-greater c

    go : Dec (64 ≤ n) → put_shelf s n c ≡ join_shelf s (put_shelf empty_shelf n c)
    go (yes h) =
        ap shelf (set_out s.slots n _ (omega (arith, t.long))) ∙
        sym (join-empty s t) ∙
        ap (join_shelf s) (sym (ap shelf (set_out (replicate 64 blank) n _ (omega (arith, length-replicate 64 blank)))))
    go (no d) =
        let h : n < 64 = omega arith in
        ap (λ (z : Slot). shelf (set s.slots n (greater_slot (slot_at s n) z))) (sym (only h)) ∙
        sym (ap shelf (zip-set greater_slot 64 n s.slots blank _ t.long h (λ k l. greater-blank (slot_at s k))))

pub file-is-join : (q : List (ℕ × Card)) (s : Shelf) → Tidy s → file_all q s ≡ join_shelf s (file_all q empty_shelf)
unfolding file_all
file-is-join [] s t = sym (join-empty s t)
file-is-join (e ∷ q) s t =
    file-is-join q (put_shelf s e.0 e.1) (tidy-put s e.0 e.1 t) ∙
    ap (λ (z : Shelf). join_shelf z (file_all q empty_shelf)) (put-is-join s e.0 e.1 t) ∙
    shelf-join.assoc s (put_shelf empty_shelf e.0 e.1) (file_all q empty_shelf) ∙
    ap (join_shelf s) (sym (file-is-join q (put_shelf empty_shelf e.0 e.1) (tidy-put empty_shelf e.0 e.1 tidy-empty)))

-- ---- a card that was put, on any shelf of 64 slots

-- the slot holds it where it is greater than what was there
pub put-raises : (s : Shelf) (n : ℕ) (c : Card) → length s.slots ≡ 64 → n < 64 → less_slot (slot_at s n) (holding c) ≡ true → slot_at (put_shelf s n c) n ≡ holding c
unfolding greater_slot
put-raises s n c long h k = put_same s n c long h ∙ max-right slot-strict _ _ k

-- and nothing changes where it is not
pub put-stays : (s : Shelf) (n : ℕ) (c : Card) → less_slot (slot_at s n) (holding c) ≡ false → put_shelf s n c ≡ s
unfolding greater_slot
put-stays s n c k = ap shelf (ap (set s.slots n) (max-left slot-strict _ _ k) ∙ set-get_or s.slots n blank)

-- what is said of it: that its slot changed, exactly when it did

pub unchanged-same : (s : Shelf) (n : ℕ) (c : Card) → length s.slots ≡ 64 → (put_of s n c).changed ≡ false → put_shelf s n c ≡ s
unchanged-same s n c long k = by-room (dec_le 64 n)
  where
    by-room : Dec (64 ≤ n) → put_shelf s n c ≡ s
    by-room (yes h) = ap shelf (set_out s.slots n _ (omega arith))
    by-room (no d) = let l : ltb n 64 ≡ true = lt-ltb n 64 (omega arith) in put-stays s n c (rw l at k)

pub changed-differs : (s : Shelf) (n : ℕ) (c : Card) → length s.slots ≡ 64 → (put_of s n c).changed ≡ true → slot_at (put_shelf s n c) n ≢ slot_at s n
changed-differs s n c long k e =
    let b = and_parts (ltb n 64) (less_slot (slot_at s n) (holding c)) k in
    less-apart slot-strict b.1 (sym e ∙ put-raises s n c long (ltb-true _ _ b.0) b.1)

-- what putting a card comes to, by what is said of it

pub put_changed : (s : Shelf) (n : ℕ) (c : Card) (t : Bool) → t ≡ (put_of s n c).changed → t ≡ true → ◌≡◌ {A = PutDone} (record { shelf = shelf (set s.slots n (holding c)); changed = t }) (put_of s n c)
unfolding greater_slot
put_changed s n c t e h =
    let b = and_parts (ltb n 64) (less_slot (slot_at s n) (holding c)) (sym e ∙ h) in
    let raised = max-right slot-strict (slot_at s n) (holding c) b.1 in
    λ i. record { shelf = shelf (set s.slots n (sym raised i)); changed = e i }

pub put_unchanged : (s : Shelf) (n : ℕ) (c : Card) (t : Bool) → length s.slots ≡ 64 → t ≡ (put_of s n c).changed → t ≡ false → ◌≡◌ {A = PutDone} (record { shelf = s; changed = t }) (put_of s n c)
put_unchanged s n c t long e h = λ i. record { shelf = sym (unchanged-same s n c long (sym e ∙ h)) i; changed = e i }
