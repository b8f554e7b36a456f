-- Filing a queue is joining the shelf which that queue makes from empty. So the same queue filed again changes nothing more.
-- Assumes nothing.
use mathlib.Core.Path.{◌≡◌, refl, sym, ap, ◌∙◌}
use mathlib.Core.Bool.{Bool, true, false}
use mathlib.Core.List.{List}
use Prim.Native.Nat.{ℕ}
use lib.Dec.{eqb}
use Rattle.cutting.specs.Cuts.{cut_of}
use Rattle.shelf.specs.Shelves.{empty_shelf, join_shelf}
use Rattle.shelf.specs.declared.Shelf.{Shelf}
use Rattle.shelf.specs.History.{Tidy}
use Rattle.shelf.proofs.Laws.{shelf-join, join-empty, file-is-join, tidy-join}
use Rattle.queue.specs.Queues.{Sent, records_filed, from_start, record_step, queue_refusal, queue_filed}
use Rattle.queue.specs.History.{start, queue, shelf_of}
use Rattle.queue.proofs.RecordsAsCards.{cards_in, records-are-cards}
use Rattle.queue.proofs.Histories.{tidy}

records-join : (rs : List Sent) (s : Shelf) → Tidy s → (records_filed (from_start s) rs).shelf ≡ join_shelf s (records_filed (from_start empty_shelf) rs).shelf
records-join rs s t =
    records-are-cards rs (from_start s) ∙ file-is-join (cards_in rs) s t ∙ ap (join_shelf s) (sym (records-are-cards rs (from_start empty_shelf)))

-- ---- the theorems, of every shelf of 64 slots, as those of histories are

pub queue-is-joining : (q : List ℕ) (s : Shelf) → Tidy s → (queue_filed s q).shelf ≡ join_shelf s (queue_filed empty_shelf q).shelf
unfolding queue_filed
queue-is-joining q s t = by-refusal (eqb (queue_refusal q) 0) refl
  where
    by-refusal : (b : Bool) → eqb (queue_refusal q) 0 ≡ b → (queue_filed s q).shelf ≡ join_shelf s (queue_filed empty_shelf q).shelf
    by-refusal true e = rw e (records-join (cut_of record_step q).items s t)
    by-refusal false e = rw e (sym (join-empty s t))

made_tidy : (q : List ℕ) → Tidy (queue_filed empty_shelf q).shelf
unfolding shelf_of
made_tidy q = tidy (queue q start)

-- the same queue again changes nothing more
pub queue-again : (q : List ℕ) (s : Shelf) → Tidy s → (queue_filed (queue_filed s q).shelf q).shelf ≡ (queue_filed s q).shelf
queue-again q s t =
    let made = (queue_filed empty_shelf q).shelf in
    let one = queue-is-joining q s t in
    ap (λ (x : Shelf). (queue_filed x q).shelf) one
    ∙ queue-is-joining q (join_shelf s made) (tidy-join s made t (made_tidy q))
    ∙ shelf-join.assoc s made made
    ∙ ap (join_shelf s) (shelf-join.idem made)
    ∙ sym one
