-- The records of a queue as cards for slots: filing them is filing the cards of those that are accepted, one after the other; so no slot
-- holds less than a card that was accepted for it.
-- Assumes nothing.
use mathlib.Core.Path.{◌≡◌, refl, sym, ap, subst, ◌∙◌}
use mathlib.Core.Bool.{false}
use mathlib.Core.List.Memᴰ
use mathlib.Core.List.{List, [], ◌∷◌, ◌++◌, Memᴰ}
use mathlib.Core.Logic.{◌⊎◌, inl, inr}
use Prim.Native.Nat.{ℕ, ◌<◌}
use lib.ListN.{length}
use Rattle.card.specs.declared.Card.{Card}
use Rattle.shelf.specs.declared.Shelf.{Shelf}
use Rattle.shelf.specs.Shelves.{less_slot, holding, slot_at}
use Rattle.shelf.proofs.CardHistory.{file_all}
use Rattle.shelf.proofs.NoLess.{file-takes}
use Rattle.filing.specs.Filing.{Filing, refused_filing, accepted, filed_by}
use Rattle.queue.specs.Queues.{Sent, record_filing, record_filed, one_more, records_filed}
use Rattle.queue.specs.declared.Progress.{Progress}
use Rattle.queue.proofs.FiveSections.{record-accepted}

-- the cards of the records that are accepted, with their slots
unfoldable pub card_before : ℕ → Filing → List (ℕ × Card) → List (ℕ × Card)
card_before slot (refused_filing number section place) rest = rest
card_before slot (accepted card) rest = (slot, card) ∷ rest

unfoldable pub cards_in : List Sent → List (ℕ × Card)
cards_in [] = []
cards_in (r ∷ rs) = card_before r.slot (record_filing r) (cards_in rs)

pub one-card : (slot : ℕ) (f : Filing) (rest : List (ℕ × Card)) (s : Shelf) → file_all (card_before slot f rest) s ≡ file_all rest (filed_by s slot f).shelf
unfolding card_before file_all filed_by
one-card slot (refused_filing number section place) rest s = refl
one-card slot (accepted card) rest s = refl

pub records-are-cards : (rs : List Sent) (p : Progress) → (records_filed p rs).shelf ≡ file_all (cards_in rs) p.shelf
unfolding records_filed record_filed cards_in file_all
records-are-cards [] p = refl
records-are-cards (r ∷ rs) p =
    records-are-cards rs (one_more p.counts (record_filed p.shelf r)) ∙ sym (one-card r.slot (record_filing r) (cards_in rs) p.shelf)

-- a refused record leaves the shelf as if it had never been sent
pub as-if-never-sent : (earlier later : List Sent) (r : Sent) (p : Progress) (number section place : ℕ) → record_filing r ≡ refused_filing number section place
    → (records_filed p (earlier ++ (r ∷ later))).shelf ≡ (records_filed p (earlier ++ later)).shelf
unfolding records_filed record_filed filed_by
as-if-never-sent [] later r p number section place e =
    records-are-cards later (one_more p.counts (record_filed p.shelf r))
    ∙ ap (file_all (cards_in later)) (ap (λ (f : Filing). (filed_by p.shelf r.slot f).shelf) e)
    ∙ sym (records-are-cards later p)
as-if-never-sent (x ∷ earlier) later r p number section place e =
    as-if-never-sent earlier later r (one_more p.counts (record_filed p.shelf x)) number section place e

-- ---- a record that is accepted is for a slot that is there, and then that slot holds no less than its card

pub record-there : (r : Sent) (card : Card) → record_filing r ≡ accepted card → r.slot < 64
record-there r card e = ((record-accepted r).0 (card, e)).1.there

card-among : (rs : List Sent) (r : Sent) (card : Card) → record_filing r ≡ accepted card → Memᴰ r rs → Memᴰ (r.slot, card) (cards_in rs)
unfolding cards_in card_before
card-among [] r card e m = absurd (Memᴰ.not-nil m)
card-among (x ∷ rs) r card e m = by_place (card-among rs r card e) (Memᴰ.cases_cons m)
  where
    behind : (f : Filing) → Memᴰ (r.slot, card) (cards_in rs) → Memᴰ (r.slot, card) (card_before x.slot f (cards_in rs))
    behind (refused_filing number section place) m = m
    behind (accepted other) m = Memᴰ.tail m

    by_place : (Memᴰ r rs → Memᴰ (r.slot, card) (cards_in rs)) → (r ≡ x) ⊎ Memᴰ r rs → Memᴰ (r.slot, card) (card_before x.slot (record_filing x) (cards_in rs))
    by_place rest (inl p) = subst (λ (y : Sent). Memᴰ (r.slot, card) (card_before y.slot (record_filing y) (cards_in rs))) p (rw e (Memᴰ.head refl))
    by_place rest (inr m) = behind (record_filing x) (rest m)

pub records-take : (rs : List Sent) (p : Progress) (r : Sent) (card : Card) → length p.shelf.slots ≡ 64 → Memᴰ r rs → record_filing r ≡ accepted card
    → less_slot (slot_at (records_filed p rs).shelf r.slot) (holding card) ≡ false
records-take rs p r card long m e =
    rw (records-are-cards rs p) (file-takes (cards_in rs) p.shelf r.slot card long (record-there r card e) (card-among rs r card e m))
