-- How a shelf came about by cards put, fields and queues filed and shelves joined in, and the cards that were ever accepted for its slots.
-- Assumes nothing.
use Rattle.std.specs.Prelude.{ℕ, List, [], ◌∷◌, ◌++◌, cond, eqb, ltb, Option}
use Rattle.card.specs.declared.Card.{Card}
use Rattle.cutting.specs.Cuts.{cut_of}
use Rattle.shelf.specs.Shelves.{empty_shelf, put_of, join_shelf}
use Rattle.shelf.specs.declared.Shelf.{Shelf}
use Rattle.filing.specs.Filing.{Filing, refused_filing, accepted, filing_of, filed_of}
use Rattle.queue.specs.Queues.{Sent, record_filing, record_step, queue_refusal, queue_filed}

-- a field that is filed: an issue and five sections
pub record FiledField : Type 0 where
  pub issue : Option ℕ
  pub s1 : List ℕ
  pub s3 : List ℕ
  pub s4 : List ℕ
  pub s5 : List ℕ
  pub s7 : List ℕ

-- a shelf starts empty, a card is put to a slot as it is given, a field is filed to a slot, or a queue, accepted or refused, or another
-- shelf, with a history of its own, is joined in
pub data History : Type 0 where
  start : History
  put : ℕ → Card → History → History
  file : ℕ → FiledField → History → History
  queue : List ℕ → History → History
  join : History → History → History

-- the shelf at the end of a history
unfoldable pub shelf_of : History → Shelf
shelf_of start = empty_shelf
shelf_of (put slot card h) = (put_of (shelf_of h) slot card).shelf
shelf_of (file slot x h) = (filed_of (shelf_of h) slot x.issue x.s1 x.s3 x.s4 x.s5 x.s7).shelf
shelf_of (queue q h) = (queue_filed (shelf_of h) q).shelf
shelf_of (join g h) = join_shelf (shelf_of g) (shelf_of h)

-- a card that is put is accepted for its slot; there is none above 63
abbrev pub accepted_put : ℕ → ℕ → Card → List Card
accepted_put n slot card = cond (ltb 63 slot) [] (cond (eqb slot n) (card ∷ []) [])

-- the card of a field that is accepted for a slot, if one is
unfoldable pub accepted_of : ℕ → ℕ → Filing → List Card
accepted_of n slot (refused_filing number section place) = []
accepted_of n slot (accepted card) = cond (eqb slot n) (card ∷ []) []

-- those of the records of a queue; a queue that is refused as a whole has no records
unfoldable pub accepted_in : ℕ → List Sent → List Card
accepted_in n [] = []
accepted_in n (r ∷ rs) = accepted_of n r.slot (record_filing r) ++ accepted_in n rs

abbrev pub records_of : List ℕ → List Sent
records_of q = cond (eqb (queue_refusal q) 0) (cut_of record_step q).items []

-- each card that was ever accepted for a slot, here or in a shelf joined in, directly or through others
unfoldable pub accepted_at : ℕ → History → List Card
accepted_at n start = []
accepted_at n (put slot card h) = accepted_at n h ++ accepted_put n slot card
accepted_at n (file slot x h) =
    accepted_at n h ++ accepted_of n slot (filing_of slot x.issue x.s1 x.s3 x.s4 x.s5 x.s7)
accepted_at n (queue q h) = accepted_at n h ++ accepted_in n (records_of q)
accepted_at n (join g h) = accepted_at n g ++ accepted_at n h
