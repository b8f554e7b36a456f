-- Each slot of a shelf holds the greatest card that was ever accepted for it, or is empty if none was; so shelves for whose slots the same cards were accepted are one shelf.
-- Assumes nothing.
use mathlib.Core.Path.{◌≡◌, refl, sym, ap, ap₂, subst, subst⁻¹, ◌∙◌}
use mathlib.Core.Bool.{Bool, true, false, cond}
use mathlib.Core.Logic.{⊎_elim}
use mathlib.Core.List.Memᴰ
use mathlib.Core.List.{List, [], ◌∷◌, ◌++◌, Memᴰ, append-nil}
use Prim.Native.Nat.{ℕ, ◌<◌}
use native.Mathlib.Omega.{arith}
use lib.Dec.{eqb}
use lib.ListN.{get_or-replicate}
use lib.Seq.{ext_get_or}
use borrow.Author.Tests.{eqb-true, eqb-false}
use Rattle.card.specs.declared.Card.{Card}
use Rattle.card.specs.Order.{max_of}
use Rattle.card.specs.Key.{less_card}
use Rattle.card.proofs.Strict.{not-trans, max-least-left, max-least-right, max-left, max-right}
use Rattle.card.proofs.Cards.{card-strict, greater_card}
use Rattle.shelf.specs.Shelves.{Slot, greater_slot, blank, holding, slot_at, put_shelf}
use Rattle.shelf.specs.History.{Keeps, nothing, greatest, Tidy}
use Rattle.shelf.proofs.CardHistory.{CardHistory, start, put, join, shelf_of, accepted_at}
use Rattle.shelf.proofs.Slots.{slot-join, blank-greater, held-greater}
use Rattle.shelf.proofs.Laws.{shelf, tidy-empty, tidy-put, tidy-join, put_same, put_other, join-at}

pub tidy : (h : CardHistory) → Tidy (shelf_of h)
unfolding shelf_of
tidy start = tidy-empty
tidy (put n c h) = tidy-put (shelf_of h) n c (tidy h)
tidy (join g h) = tidy-join (shelf_of g) (shelf_of h) (tidy g) (tidy h)

among : {l : List Card} (c d : Card) → Memᴰ c l → Memᴰ d l → Memᴰ (greater_card c d) l
unfolding greater_card
among {l} c d i j = go (less_card c d) refl
  where
    go : (t : Bool) → less_card c d ≡ t → Memᴰ (max_of less_card c d) l
    go true e = rw (max-right card-strict c d e) j
    go false e = rw (max-left card-strict c d e) i

above-left : (c d x : Card) → less_card c x ≡ false → less_card (greater_card c d) x ≡ false
unfolding greater_card
above-left c d x h = not-trans card-strict x c (max_of less_card c d) h (max-least-left card-strict c d)

above-right : (c d x : Card) → less_card d x ≡ false → less_card (greater_card c d) x ≡ false
unfolding greater_card
above-right c d x h = not-trans card-strict x d (max_of less_card c d) h (max-least-right card-strict c d)

keeps-one : (c : Card) → Keeps (c ∷ []) (holding c)
keeps-one c = greatest c (Memᴰ.head refl) (λ d i. rw (Memᴰ.eq_of_singleton i) (card-strict.irrefl c))

-- what is kept of two lists together is the greater of what is kept of each
keeps-both : {l m : List Card} {s t : Slot} → Keeps l s → Keeps m t → Keeps (l ++ m) (greater_slot s t)
keeps-both {l} {m} (nothing e) (nothing f) = subst⁻¹ (Keeps (l ++ m)) (slot-join.idem blank) (nothing (ap₂ (λ (x y : List Card). x ++ y) e f))
keeps-both {l} {m} (nothing e) (greatest d i b) =
    subst⁻¹ (Keeps (l ++ m)) (blank-greater d)
    (greatest d (Memᴰ.append_right l i)
    (λ x k. ⊎_elim (λ z. absurd (Memᴰ.not-nil (subst (Memᴰ x) e z))) (b x) (Memᴰ.append_cases l k)))
keeps-both {l} {m} (greatest c i b) (nothing e) =
    subst⁻¹ (Keeps (l ++ m)) (slot-join.comm (holding c) blank ∙ blank-greater c)
    (greatest c (Memᴰ.append_left m i)
    (λ x k. ⊎_elim (b x) (λ z. absurd (Memᴰ.not-nil (subst (Memᴰ x) e z))) (Memᴰ.append_cases l k)))
keeps-both {l} {m} (greatest c i b) (greatest d j e) =
    subst⁻¹ (Keeps (l ++ m)) (held-greater c d)
    (greatest (greater_card c d) (among c d (Memᴰ.append_left m i) (Memᴰ.append_right l j))
    (λ x k. ⊎_elim (λ z. above-left c d x (b x z)) (λ z. above-right c d x (e x z)) (Memᴰ.append_cases l k)))

-- Each slot holds the greatest card that was ever accepted for it, or is empty if none was.
pub greatest-card : (h : CardHistory) (n : ℕ) → n < 64 → Keeps (accepted_at n h) (slot_at (shelf_of h) n)
unfolding shelf_of accepted_at
greatest-card start n l = subst⁻¹ (Keeps []) (get_or-replicate 64 n blank blank l) (nothing refl)
greatest-card (put m c h) n l = go (eqb m n) refl (greatest-card h n l)
  where
    go : (t : Bool) → eqb m n ≡ t → Keeps (accepted_at n h) (slot_at (shelf_of h) n) → Keeps (accepted_at n h ++ cond (eqb m n) (c ∷ []) []) (slot_at (put_shelf (shelf_of h) m c) n)
    go true e k =
        let same : m ≡ n = eqb-true m n e in
        rw (e, same, put_same (shelf_of h) n c (tidy h).long l) (keeps-both k (keeps-one c))
    go false e k = rw (e, append-nil (accepted_at n h), put_other (shelf_of h) m n c (λ d. eqb-false m n e (sym d))) k
greatest-card (join g h) n l = rw (join-at (shelf_of g) (shelf_of h) n (tidy g).long (tidy h).long l) (keeps-both (greatest-card g n l) (greatest-card h n l))

-- what a slot keeps is settled by which cards there are, whatever their order and however often
keeps_same : {l m : List Card} {s t : Slot} → ((c : Card) → Memᴰ c l → Memᴰ c m) → ((c : Card) → Memᴰ c m → Memᴰ c l) → Keeps l s → Keeps m t → s ≡ t
keeps_same f g (nothing e) (nothing e') = refl
keeps_same f g (nothing e) (greatest d i b) = absurd (Memᴰ.not-nil (subst (Memᴰ d) e (g d i)))
keeps_same f g (greatest c i b) (nothing e) = absurd (Memᴰ.not-nil (subst (Memᴰ c) e (f c i)))
keeps_same f g (greatest c i b) (greatest d j e) = ap holding (card-strict.total c d (b d (g d j)) (e c (f c i)))

-- So filing and joining may be done in any order, in any grouping and with repeats.
pub any_order : (g h : CardHistory) → ((n : ℕ) → n < 64 → (c : Card) → Memᴰ c (accepted_at n g) → Memᴰ c (accepted_at n h))
    → ((n : ℕ) → n < 64 → (c : Card) → Memᴰ c (accepted_at n h) → Memᴰ c (accepted_at n g)) → shelf_of g ≡ shelf_of h
any_order g h there back =
    ap shelf
    (ext_get_or blank (shelf_of g).slots (shelf_of h).slots ((tidy g).long ∙ sym (tidy h).long)
    (λ n l. let below : n < 64 = omega (arith, (tidy g).long) in keeps_same (there n below) (back n below) (greatest-card g n below) (greatest-card h n below)))
