-- How a shelf came about, as cards put to slots and shelves joined in: what a history of fields and queues comes to, in which the refused ones
-- were never sent.
-- Assumes nothing.
use mathlib.Core.Bool.{cond}
use mathlib.Core.List.{List, [], ◌∷◌, ◌++◌}
use Prim.Native.Nat.{ℕ}
use lib.Dec.{eqb}
use Rattle.card.specs.declared.Card.{Card}
use Rattle.shelf.specs.declared.Shelf.{Shelf}
use Rattle.shelf.specs.Shelves.{empty_shelf, put_shelf, join_shelf}

-- a shelf starts empty, a card is put to a slot, or another shelf, with a history of its own, is joined in
pub data CardHistory : Type 0 where
  start : CardHistory
  put : ℕ → Card → CardHistory → CardHistory
  join : CardHistory → CardHistory → CardHistory

-- the shelf at the end of a history
unfoldable pub shelf_of : CardHistory → Shelf
shelf_of start = empty_shelf
shelf_of (put n c h) = put_shelf (shelf_of h) n c
shelf_of (join g h) = join_shelf (shelf_of g) (shelf_of h)

-- each card that was ever accepted for a slot, here or in a shelf joined in, directly or through others
unfoldable pub accepted_at : ℕ → CardHistory → List Card
accepted_at n start = []
accepted_at n (put m c h) = accepted_at n h ++ cond (eqb m n) (c ∷ []) []
accepted_at n (join g h) = accepted_at n g ++ accepted_at n h

-- cards are put one after the other
unfoldable pub file_all : List (ℕ × Card) → Shelf → Shelf
file_all [] s = s
file_all (e ∷ q) s = file_all q (put_shelf s e.0 e.1)
