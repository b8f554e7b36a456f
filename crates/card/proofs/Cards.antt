-- The order of cards: the first number at which two keys differ decides. It is strict and total, so that the greater of two cards is a join.
-- Assumes nothing.
use mathlib.Core.Path.{◌≡◌, refl, sym, ap, ap₂, ◌∙◌}
use mathlib.Core.List.{List, [], ◌∷◌, ◌++◌, map, map-append, nil≢cons, cons≢nil}
use mathlib.Core.Logic.{◌≢◌}
use Prim.Native.Nat.{ℕ, suc, ◌<◌}
use lib.Dec.{ltb}
use lib.IntN.{ℤ, pos}
use lib.ListN.{length, take, drop, get_or, take-append-drop}
use lib.Seq.{drop-cons}
use lib.Signed.{lt_z}
use Rattle.card.specs.declared.Card.{Card}
use Rattle.card.specs.Order.{lex, max_of}
use Rattle.card.specs.Key.{time_of, key_of, less_card}
use Rattle.card.proofs.Strict.{Strict, pulled}
use Rattle.card.proofs.Lex.{lex-strict, first-decides, Z-strict}

pos-apart : (l m : List ℕ) → map pos l ≡ map pos m → l ≡ m
pos-apart [] [] e = refl
pos-apart [] (y ∷ m) e = absurd (nil≢cons e)
pos-apart (x ∷ l) [] e = absurd (cons≢nil e)
pos-apart (x ∷ l) (y ∷ m) e = ap₂ (λ (z : ℕ) (zs : List ℕ). z ∷ zs) (cc) (pos-apart l m (cc))

-- two cards with one key are one card
pub key_apart : (a b : Card) → key_of a ≡ key_of b → a ≡ b
unfolding key_of
key_apart a b e =
    let year : a.year ≡ b.year = cc in
    let month : a.month ≡ b.month = cc in
    let day : a.day ≡ b.day = cc in
    let hour : a.hour ≡ b.hour = cc in
    let minute : a.minute ≡ b.minute = cc in
    let second : a.second ≡ b.second = cc in
    let issue : a.issue ≡ b.issue = cc in
    let product : a.product ≡ b.product = pos-apart a.product b.product (cc) in
    λ i. record {
      year = year i;
      month = month i;
      day = day i;
      hour = hour i;
      minute = minute i;
      second = second i;
      issue = issue i;
      product = product i;
    }

-- the first number at which two keys differ decides
pub key-decides : (a b : Card) (us vs : List ℤ) (x y : ℤ) (xs ys : List ℤ) → key_of a ≡ us ++ (x ∷ xs) → key_of b ≡ vs ++ (y ∷ ys) → us ≡ vs → x ≢ y → less_card a b ≡ lt_z x y
unfolding less_card
key-decides a b us vs x y xs ys e f front d = ap₂ (lex lt_z) e f ∙ first-decides Z-strict us vs x y xs ys front d

-- a number that is not negative decides as it is
pub number-decides : (a b : Card) (us vs : List ℤ) (x y : ℕ) (xs ys : List ℤ) → key_of a ≡ us ++ (pos x ∷ xs) → key_of b ≡ vs ++ (pos y ∷ ys) → us ≡ vs → x ≢ y → less_card a b ≡ ltb x y
number-decides a b us vs x y xs ys e f front d = key-decides a b us vs (pos x) (pos y) xs ys e f front (λ p. d (cc))

-- a key up to the product's octet that has so many before it, and from that octet on
pub key-at : (c : Card) (k : ℕ) → k < length c.product →
    key_of c ≡ (time_of c ++ (pos c.issue ∷ map pos (take k c.product))) ++ (pos (get_or c.product k 0) ∷ map pos (drop (suc k) c.product))
unfolding key_of
key-at c k h =
    let l = c.product in
    ap (λ (m : List ℕ). time_of c ++ (pos c.issue ∷ map pos m)) (sym (take-append-drop k l) ∙ ap (λ (m : List ℕ). take k l ++ m) (drop-cons l k 0 h))
    ∙ ap (λ (m : List ℤ). time_of c ++ (pos c.issue ∷ m)) (map-append pos (take k l) (get_or l k 0 ∷ drop (suc k) l))

pub card-strict : Strict less_card
unfolding less_card
card-strict = pulled key_of key_apart (lex-strict Z-strict)

-- the greater of two cards; where neither is greater they are one card
unfoldable pub greater_card : Card → Card → Card
greater_card = max_of less_card
