-- Demand 3: each slot holds the greatest card that was ever accepted for it, or is empty if none was; so shelves for whose slots the same
-- cards were accepted are one shelf, whatever the order, the grouping and the repeats.
-- A history of cards, fields and queues is one of cards, in which the refused ones were never sent, and the shelf's own theorems are cited.
-- Assumes nothing.
use Prim.Native.Nat.{ℕ, ◌<◌, ◌≤◌}
use native.Mathlib.Omega.{arith}
use mathlib.Core.Path.{◌≡◌, refl, sym, ap, ap₂, subst, ◌∙◌}
use mathlib.Core.List.{List, [], ◌∷◌, ◌++◌, Memᴰ, append-nil, append_assoc}
use mathlib.Core.Bool.{Bool, true, false, cond}
use lib.Dec.{eqb, ltb}
use borrow.Author.Tests.{ltb-true, ltb-false, ne_eqb}
use Rattle.cutting.specs.Cuts.{cut_of}
use Rattle.card.specs.declared.Card.{Card}
use Rattle.shelf.specs.Shelves.{slot_at, put_shelf, join_shelf}
use Rattle.shelf.specs.declared.Shelf.{Shelf}
use Rattle.shelf.specs.History.{Keeps, Tidy}
use Rattle.shelf.proofs.CardHistory.{CardHistory as Cards, start as no_cards, put as put_card, join as join_cards, shelf_of as shelf_of_cards, accepted_at as accepted_cards, file_all}
use Rattle.shelf.proofs.Histories.{tidy as tidy-cards, greatest-card as greatest-of-cards, any_order as any-order-of-cards}
use Rattle.filing.specs.Filing.{Filing, refused_filing, accepted, filing_of, filed_by, filed_of}
use Rattle.filing.proofs.SaidOfTheSlots.{slot-there}
use Rattle.queue.specs.Queues.{Sent, record_filing, from_start, record_step, queue_refusal, queue_filed}
use Rattle.queue.proofs.RecordsAsCards.{card_before, cards_in, one-card, records-are-cards, record-there}
use Rattle.queue.specs.History.{FiledField, History, start, put, file, queue, join, shelf_of, accepted_put, accepted_of, accepted_in, records_of, accepted_at}

-- ---- a history of cards, fields and queues as one of cards

abbrev filing_of_field : ℕ → FiledField → Filing
filing_of_field slot x = filing_of slot x.issue x.s1 x.s3 x.s4 x.s5 x.s7

-- cards put one after the other
of_cards : List (ℕ × Card) → Cards → Cards
of_cards [] h = h
of_cards (e ∷ es) h = of_cards es (put_card e.0 e.1 h)

of_history : History → Cards
of_history start = no_cards
of_history (put slot card h) = put_card slot card (of_history h)
of_history (file slot x h) = of_cards (card_before slot (filing_of_field slot x) []) (of_history h)
of_history (queue q h) = of_cards (cards_in (records_of q)) (of_history h)
of_history (join g h) = join_cards (of_history g) (of_history h)

-- ---- the same shelf

cards-shelf : (es : List (ℕ × Card)) (h : Cards) → file_all es (shelf_of_cards h) ≡ shelf_of_cards (of_cards es h)
unfolding file_all of_cards shelf_of_cards
cards-shelf [] h = refl
cards-shelf (e ∷ es) h = cards-shelf es (put_card e.0 e.1 h)

filing-shelf : (slot : ℕ) (f : Filing) (s : Shelf) → (filed_by s slot f).shelf ≡ file_all (card_before slot f []) s
unfolding file_all
filing-shelf slot f s = sym (one-card slot f [] s)

queue-shelf : (q : List ℕ) (s : Shelf) → (queue_filed s q).shelf ≡ file_all (cards_in (records_of q)) s
unfolding queue_filed cards_in file_all
queue-shelf q s = by-refusal (eqb (queue_refusal q) 0) refl
  where
    by-refusal : (t : Bool) → eqb (queue_refusal q) 0 ≡ t → (queue_filed s q).shelf ≡ file_all (cards_in (records_of q)) s
    by-refusal true f = rw f (records-are-cards (cut_of record_step q).items (from_start s))
    by-refusal false f = rw f

same-shelves : (h : History) → shelf_of h ≡ shelf_of_cards (of_history h)
unfolding shelf_of shelf_of_cards of_history filed_of
same-shelves start = refl
same-shelves (put slot card h) = ap (λ (s : Shelf). put_shelf s slot card) (same-shelves h)
same-shelves (file slot x h) =
    let cards = card_before slot (filing_of_field slot x) [] in
    filing-shelf slot (filing_of_field slot x) (shelf_of h) ∙ ap (file_all cards) (same-shelves h) ∙ cards-shelf cards (of_history h)
same-shelves (queue q h) =
    queue-shelf q (shelf_of h) ∙ ap (file_all (cards_in (records_of q))) (same-shelves h) ∙ cards-shelf (cards_in (records_of q)) (of_history h)
same-shelves (join g h) = ap₂ join_shelf (same-shelves g) (same-shelves h)

-- ---- the same cards

-- those of a list of cards that are for a slot
accepted_among : ℕ → List (ℕ × Card) → List Card
accepted_among n [] = []
accepted_among n (e ∷ es) = cond (eqb e.0 n) (e.1 ∷ []) [] ++ accepted_among n es

among-cards : (n : ℕ) (es : List (ℕ × Card)) (h : Cards) → accepted_cards n h ++ accepted_among n es ≡ accepted_cards n (of_cards es h)
unfolding accepted_among of_cards accepted_cards
among-cards n [] h = append-nil (accepted_cards n h)
among-cards n (e ∷ es) h =
    sym (append_assoc (accepted_cards n h) (cond (eqb e.0 n) (e.1 ∷ []) []) (accepted_among n es)) ∙ among-cards n es (put_card e.0 e.1 h)

among-before : (n slot : ℕ) (f : Filing) (es : List (ℕ × Card)) → accepted_of n slot f ++ accepted_among n es ≡ accepted_among n (card_before slot f es)
unfolding accepted_of accepted_among card_before
among-before n slot (refused_filing number section place) es = refl
among-before n slot (accepted card) es = refl

among-records : (n : ℕ) (rs : List Sent) → accepted_in n rs ≡ accepted_among n (cards_in rs)
unfolding accepted_in accepted_among cards_in
among-records n [] = refl
among-records n (r ∷ rs) =
    ap (λ (l : List Card). accepted_of n r.slot (record_filing r) ++ l) (among-records n rs) ∙ among-before n r.slot (record_filing r) (cards_in rs)

among-filing : (n slot : ℕ) (f : Filing) → accepted_of n slot f ≡ accepted_among n (card_before slot f [])
unfolding accepted_among
among-filing n slot f = sym (append-nil (accepted_of n slot f)) ∙ among-before n slot f []

-- a card that is put, for a slot that is there
among-put : (n slot : ℕ) (card : Card) → n < 64 → accepted_put n slot card ≡ cond (eqb slot n) (card ∷ []) []
among-put n slot card l = by-slot (ltb 63 slot) refl
  where
    by-slot : (t : Bool) → ltb 63 slot ≡ t → cond t [] (cond (eqb slot n) (card ∷ []) []) ≡ cond (eqb slot n) (card ∷ []) []
    by-slot true e = rw (ne_eqb slot n (λ q. let large : 63 < slot = ltb-true 63 slot e in omega arith))
    by-slot false e = refl

same-accepted : (n : ℕ) → n < 64 → (h : History) → accepted_at n h ≡ accepted_cards n (of_history h)
unfolding accepted_at accepted_cards of_history
same-accepted n l start = refl
same-accepted n l (put slot card h) = ap₂ (λ (k m : List Card). k ++ m) (same-accepted n l h) (among-put n slot card l)
same-accepted n l (file slot x h) =
    ap₂ (λ (k m : List Card). k ++ m) (same-accepted n l h) (among-filing n slot (filing_of_field slot x)) ∙ among-cards n (card_before slot (filing_of_field slot x) []) (of_history h)
same-accepted n l (queue q h) =
    ap₂ (λ (k m : List Card). k ++ m) (same-accepted n l h) (among-records n (records_of q)) ∙ among-cards n (cards_in (records_of q)) (of_history h)
same-accepted n l (join g h) = ap₂ (λ (k m : List Card). k ++ m) (same-accepted n l g) (same-accepted n l h)

-- ---- the theorems

pub tidy : (h : History) → Tidy (shelf_of h)
tidy h = rw (same-shelves h) (tidy-cards (of_history h))

-- each slot holds the greatest card ever accepted for it, or is empty if none was
pub greatest-card : (h : History) (n : ℕ) → n < 64 → Keeps (accepted_at n h) (slot_at (shelf_of h) n)
greatest-card h n l = rw (same-accepted n l h, same-shelves h) (greatest-of-cards (of_history h) n l)

-- so filing and joining may be done in any order, in any grouping and with repeats
pub any_order : (g h : History) → ((n : ℕ) → n < 64 → (c : Card) → Memᴰ c (accepted_at n g) → Memᴰ c (accepted_at n h))
    → ((n : ℕ) → n < 64 → (c : Card) → Memᴰ c (accepted_at n h) → Memᴰ c (accepted_at n g)) → shelf_of g ≡ shelf_of h
any_order g h there back =
    same-shelves g
    ∙ any-order-of-cards (of_history g) (of_history h)
    (λ n l c m. subst (Memᴰ c) (same-accepted n l h) (there n l c (subst (Memᴰ c) (sym (same-accepted n l g)) m)))
    (λ n l c m. subst (Memᴰ c) (same-accepted n l g) (back n l c (subst (Memᴰ c) (sym (same-accepted n l h)) m)))
    ∙ sym (same-shelves h)

-- ---- no card is ever accepted for a slot that is not there: 16

put-past-63 : (n slot : ℕ) (card : Card) → 64 ≤ n → accepted_put n slot card ≡ []
put-past-63 n slot card l = by-slot (ltb 63 slot) refl
  where
    by-slot : (t : Bool) → ltb 63 slot ≡ t → cond t [] (cond (eqb slot n) (card ∷ []) []) ≡ []
    by-slot true e = refl
    by-slot false e = rw (ne_eqb slot n (λ q. let small : slot ≤ 63 = ltb-false 63 slot e in omega arith))

filing-past-63 : (n slot : ℕ) (f : Filing) → ((card : Card) → f ≡ accepted card → slot < 64) → 64 ≤ n → accepted_of n slot f ≡ []
unfolding accepted_of
filing-past-63 n slot (refused_filing number section place) h l = refl
filing-past-63 n slot (accepted card) h l = let here = h card refl in rw (ne_eqb slot n (λ q. omega arith))

records-past-63 : (n : ℕ) (rs : List Sent) → 64 ≤ n → accepted_in n rs ≡ []
unfolding accepted_in
records-past-63 n [] l = refl
records-past-63 n (r ∷ rs) l = ap₂ (λ (k m : List Card). k ++ m) (filing-past-63 n r.slot (record_filing r) (record-there r) l) (records-past-63 n rs l)

pub none-past-63 : (h : History) (n : ℕ) → 64 ≤ n → accepted_at n h ≡ []
unfolding accepted_at
none-past-63 start n l = refl
none-past-63 (put slot card h) n l = ap₂ (λ (k m : List Card). k ++ m) (none-past-63 h n l) (put-past-63 n slot card l)
none-past-63 (file slot x h) n l =
    ap₂ (λ (k m : List Card). k ++ m) (none-past-63 h n l)
    (filing-past-63 n slot (filing_of_field slot x) (slot-there slot x.issue x.s1 x.s3 x.s4 x.s5 x.s7) l)
none-past-63 (queue q h) n l = ap₂ (λ (k m : List Card). k ++ m) (none-past-63 h n l) (records-past-63 n (records_of q) l)
none-past-63 (join g h) n l = ap₂ (λ (k m : List Card). k ++ m) (none-past-63 g n l) (none-past-63 h n l)
