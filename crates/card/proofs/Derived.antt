-- Std's derived order goes field by field as the order of keys goes number by number.
-- Assumes nothing.
use mathlib.Core.Path.{◌≡◌, refl, sym, ap, ◌∙◌}
use mathlib.Core.Bool.{Bool, true, false, cond}
use mathlib.Core.List.{List, [], ◌∷◌, map}
use Prim.Native.Nat.{ℕ}
use native.Mathlib.Omega.{arith}
use lib.Dec.{ltb, eqb}
use lib.IntN.{ℤ, pos}
use lib.Signed.{lt_z}
use borrow.Author.Tests.{ltb-false, eqb-true, eqb-false, lt-ltb, le-ltb}
use Rattle.std.specs.Prelude.{Option, Some}
use Rattle.std.proofs.Common.{Ordering, Less, Equal, Greater}
use Rattle.std.specs.Ordering.{int_cmp, nat_cmp, partial_ordering_then, is_some_and, is_lt}
use Rattle.std.specs.Cmp.Lexicographic.{slice_partial_cmp}
use Rattle.card.specs.declared.Card.{Card}
use Rattle.card.specs.contracts.CardPartialOrd.TheImpl.{partial_cmp-value}
use Rattle.card.specs.contracts.CardOrd.TheImpl.{cmp-value}
use Rattle.card.specs.contracts.CardOrd.TheImpl.Laws.{matches_partial_cmp-law}
use Rattle.card.specs.Order.{lex}
use Rattle.card.specs.Key.{key_of, less_card}

-- a signed number and what follows it
pub then_int : (x y : ℤ) (o : Option Ordering) (xs ys : List ℤ) → is_some_and is_lt o ≡ lex lt_z xs ys
    → is_some_and is_lt (partial_ordering_then (Some (int_cmp x y)) o) ≡ lex lt_z (x ∷ xs) (y ∷ ys)
unfolding lex
then_int x y o xs ys rest = by (lt_z x y) (lt_z y x)
  where
    by : (t u : Bool) → is_some_and is_lt (partial_ordering_then (Some (cond t Less (cond u Greater Equal))) o) ≡ cond t true (cond u false (lex lt_z xs ys))
    by true u = refl
    by false true = refl
    by false false = rest

-- a number that is not signed
pub then_nat : (x y : ℕ) (o : Option Ordering) (xs ys : List ℤ) → is_some_and is_lt o ≡ lex lt_z xs ys
    → is_some_and is_lt (partial_ordering_then (Some (nat_cmp x y)) o) ≡ lex lt_z (pos x ∷ xs) (pos y ∷ ys)
unfolding lex
then_nat x y o xs ys rest = by (ltb x y) refl (eqb x y) refl
  where
    by : (t : Bool) → ltb x y ≡ t → (e : Bool) → eqb x y ≡ e → is_some_and is_lt (partial_ordering_then (Some (cond t Less (cond e Equal Greater))) o) ≡ cond t true (cond (ltb y x) false (lex lt_z xs ys))
    by true h e g = refl
    by false h true g = rw (le-ltb y x (omega (arith, eqb-true x y g))) rest
    by false h false g = rw (lt-ltb y x (omega (arith, ltb-false x y h, eqb-false x y g)))

-- octets from the left
pub lex_octets : (xs ys : List ℕ) → is_some_and is_lt (slice_partial_cmp (λ x y. Some (nat_cmp x y)) xs ys) ≡ lex lt_z (map pos xs) (map pos ys)
unfolding lex
lex_octets [] [] = refl
lex_octets [] (y ∷ ys) = refl
lex_octets (x ∷ xs) [] = refl
lex_octets (x ∷ xs) (y ∷ ys) = then_nat x y _ (map pos xs) (map pos ys) (lex_octets xs ys)

-- ---- cards

pub derived_less : (a b : Card) → is_some_and is_lt (partial_cmp-value.it a b) ≡ less_card a b
unfolding less_card key_of
derived_less a b = then_int _ _ _ _ _ (then_nat _ _ _ _ _ (then_nat _ _ _ _ _ (then_nat _ _ _ _ _ (then_nat _ _ _ _ _ (then_nat _ _ _ _ _ (then_nat _ _ _ _ _ (lex_octets _ _)))))))

pub derived_cmp : (a b : Card) → is_lt (cmp-value.it a b) ≡ less_card a b
derived_cmp a b = sym (ap (is_some_and is_lt) (matches_partial_cmp-law a b)) ∙ derived_less a b
