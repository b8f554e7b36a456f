-- Slots are in a strict total order, so that the greater of two slots is a join; and it is the order in which std has options.
-- Assumes nothing.
use mathlib.Core.Path.{◌≡◌, refl, sym, ap, ◌∙◌}
use mathlib.Core.Bool.{Bool, true, false, true≢false, cond}
use mathlib.Core.List.{nil≢cons, cons≢nil}
use Rattle.std.proofs.Common.{Some, None}
use Rattle.std.specs.Option.{option_cmp, option_partial_cmp}
use Rattle.std.specs.Ordering.{is_some_and, is_lt, ord_max}
use Rattle.card.specs.declared.Card.{Card}
use Rattle.card.specs.contracts.CardPartialOrd.TheImpl.{partial_cmp-value}
use Rattle.card.specs.contracts.CardOrd.TheImpl.{cmp-value}
use Rattle.card.specs.Order.{lex, max_of}
use Rattle.card.specs.Key.{key_of, less_card}
use Rattle.card.proofs.Strict.{Strict, Join, pulled, max-join, max-left, max-right, asym}
use Rattle.card.proofs.Lex.{lex-strict, Z-strict}
use Rattle.card.proofs.Cards.{key_apart, card-strict, greater_card}
use Rattle.card.proofs.Derived.{derived_less, derived_cmp}
use Rattle.shelf.specs.Shelves.{Slot, slot_key, less_slot, greater_slot, blank, holding}

slot_apart : (a b : Slot) → slot_key a ≡ slot_key b → a ≡ b
unfolding slot_key key_of
slot_apart None None e = refl
slot_apart None (Some d) e = absurd (nil≢cons e)
slot_apart (Some c) None e = absurd (cons≢nil e)
slot_apart (Some c) (Some d) e = ap holding (key_apart c d e)

pub slot-strict : Strict less_slot
unfolding less_slot
slot-strict = pulled slot_key slot_apart (lex-strict Z-strict)

pub slot-join : Join greater_slot
unfolding greater_slot
slot-join = max-join slot-strict

-- two held slots go by their cards
pub held-by-cards : (c d : Card) → less_slot (holding c) (holding d) ≡ less_card c d
unfolding less_slot slot_key less_card
held-by-cards c d = refl

-- the empty slot is below each that holds a card, and nothing is below it
pub blank-below : (c : Card) → less_slot blank (holding c) ≡ true
unfolding less_slot slot_key key_of lex
blank-below c = refl

pub blank-least : (s : Slot) → less_slot s blank ≡ false
unfolding less_slot slot_key key_of lex
blank-least None = refl
blank-least (Some c) = refl

pub greater-blank : (s : Slot) → greater_slot s blank ≡ s
unfolding greater_slot
greater-blank s = max-left slot-strict s blank (blank-least s)

pub blank-greater : (c : Card) → greater_slot blank (holding c) ≡ holding c
unfolding greater_slot
blank-greater c = max-right slot-strict blank (holding c) (blank-below c)

-- of two held cards the greater
pub held-greater : (c d : Card) → greater_slot (holding c) (holding d) ≡ holding (greater_card c d)
unfolding greater_slot greater_card
held-greater c d = go (less_card c d) refl
  where
    go : (t : Bool) → less_card c d ≡ t → max_of less_slot (holding c) (holding d) ≡ holding (max_of less_card c d)
    go true e = max-right slot-strict (holding c) (holding d) (held-by-cards c d ∙ e) ∙ ap holding (sym (max-right card-strict c d e))
    go false e = max-left slot-strict (holding c) (holding d) (held-by-cards c d ∙ e) ∙ ap holding (sym (max-left card-strict c d e))

-- the greater of two is one of them
pub one_of : (P : Slot → Type 0) (s t : Slot) → P s → P t → P (greater_slot s t)
unfolding greater_slot
one_of P s t p q = go (less_slot s t) refl
  where
    go : (b : Bool) → less_slot s t ≡ b → P (max_of less_slot s t)
    go true e = rw (max-right slot-strict s t e) q
    go false e = rw (max-left slot-strict s t e) p

-- ---- in std's words

pub option_less : (a b : Slot) → is_some_and is_lt (option_partial_cmp partial_cmp-value.it a b) ≡ less_slot a b
unfolding less_slot slot_key key_of lex
option_less None None = refl
option_less None (Some d) = refl
option_less (Some c) None = refl
option_less (Some c) (Some d) = derived_less c d ∙ sym (held-by-cards c d)

option_cmp_less : (a b : Slot) → is_lt (option_cmp cmp-value.it a b) ≡ less_slot a b
unfolding less_slot slot_key key_of lex
option_cmp_less None None = refl
option_cmp_less None (Some d) = refl
option_cmp_less (Some c) None = refl
option_cmp_less (Some c) (Some d) = derived_cmp c d ∙ sym (held-by-cards c d)

-- where neither of two is less they are one
pub option_max : (a b : Slot) → ord_max (option_cmp cmp-value.it) a b ≡ greater_slot a b
unfolding greater_slot max_of
option_max a b = ap (λ (t : Bool). cond t a b) (option_cmp_less b a) ∙ go (less_slot a b) refl (less_slot b a) refl
  where
    go : (t : Bool) → less_slot a b ≡ t → (u : Bool) → less_slot b a ≡ u → cond u a b ≡ cond t b a
    go true e true f = absurd (true≢false (sym f ∙ asym slot-strict a b e))
    go true e false f = refl
    go false e true f = refl
    go false e false f = sym (slot-strict.total a b e f)
