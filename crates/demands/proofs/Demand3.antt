-- Demand 3. The definitions in it: a card and the order of cards (`card/specs/Key.antt`), a shelf and joining two
-- (`shelf/specs/Shelves.antt`), what a slot must hold (`Keeps`, `shelf/specs/History.antt`), filing a field (`filing/specs/Filing.antt`) and when one can
-- be filed (`FollowsFiling`, `filing/specs/Accepted.antt`), filing a queue (`queue/specs/Queues.antt`) and how one is written
-- (`queue/specs/Spelled.antt`), what the counts are (`queue/specs/Counting.antt`, by `Said` of `filing/specs/Filing.antt`), and how a shelf came about
-- (`queue/specs/History.antt`). Of the entries for C: what they leave (`skogmund/specs/Shelves.antt`), and the octets that say a history's shelf
-- (`Leaves`, `Writes`, `demands/specs/Histories.antt`).
-- Assumes nothing.

-- of shelves as octets, which are stored or sent between two calls
pub use Rattle.demands.proofs.ShelvesAsOctets.{history-read-back, octets-greatest-card, zeroed-writes, none-held-leaves, any-octets-leave, octets-queue-is-joining, octets-queue-again, octets-join-commutes, octets-join-associates, octets-join-idempotent}
-- of the entries for C, which leave the octets of a history's shelf
pub use Rattle.demands.proofs.ShelvesForC.{c-empties, c-joins, c-files, c-files-queue, c-shows, c-field-told, c-queue-told}
-- The rest are the theorems of this file.
use Prim.Native.Nat.{ℕ, ◌<◌, ◌≤◌}
use mathlib.Core.Path.{◌≡◌, refl, sym, ap, subst, subst⁻¹, ◌∙◌}
use mathlib.Core.Bool.{Bool, true, false, cond}
use mathlib.Core.List.{List, [], ◌∷◌, ◌++◌, map, Memᴰ, append-nil}
use mathlib.Core.Logic.{◌↔◌, ◌⊎◌, ◌≢◌}
use lib.Dec.{ltb, eqb}
use lib.IntN.{pos}
use lib.ListN.{length, take, get_or}
use lib.Signed.{lt_z}
use Rattle.octets.specs.Octets.{AllOctets}
use Rattle.layout.specs.Fields.{Value}
use Rattle.layout.specs.Outcomes.{read}
use Rattle.identification.specs.Section1.{outcome₁}
use Rattle.identification.specs.Accepted.{Follows₁}
use Rattle.identification.specs.declared.Template.{Template}
use Rattle.card.specs.declared.Card.{Card}
use Rattle.card.specs.Order.{lex}
use Rattle.card.specs.Key.{time_of, SameTime, key_of, less_card}
use Rattle.card.proofs.Strict.{asym, either_less}
use Rattle.card.proofs.Lex.{lex-front}
use Rattle.card.proofs.Cards.{key-decides, number-decides, key-at, card-strict}
use Rattle.shelf.specs.Shelves.{Slot, less_slot, blank, holding, empty_shelf, slot_at, put_of, join_shelf}
use Rattle.shelf.specs.History.{Keeps}
use Rattle.shelf.specs.declared.Shelf.{Shelf}
use Rattle.shelf.specs.declared.PutDone.{PutDone}
use Rattle.shelf.proofs.Slots.{blank-below, held-by-cards as by-cards}
use Rattle.shelf.proofs.Laws.{shelf-join, unchanged-same, changed-differs}
use Rattle.shelf_octets.specs.ShelfOctets.{shelf_in}
use Rattle.shelf_octets.proofs.Laws.{tidy-in}
use Rattle.std.specs.Prelude.{Option, Some, None, Result, Ok}
use Rattle.filing.specs.Filing.{Filing, refused_filing, accepted, issue_of, card_of, card_at, foreign_calendar, filing_of, filed_by, filed_of, Said}
use Rattle.filing.specs.Accepted.{Gregorian, FollowsFiling, AcceptedFiling}
use Rattle.filing.proofs.CardOctets.{card-octets}
use Rattle.filing.proofs.FiledExactlyWhen.{filed-exactly-when, filed-card, answered-exactly-when}
use Rattle.filing.proofs.SaidOfTheSlots.{slot-there, said}
use Rattle.filing.specs.declared.Filed.{Filed}
use Rattle.cutting.specs.Cuts.{cut_of}
use Rattle.cutting.specs.Sections.{stretch, Sized}
use Rattle.queue.specs.Queues.{Sent, body_filing, record_filing, record_filed, record_step, records_filed, from_start, queue_refusal, checked, refused_queue, accepted_queue, queue_filed}
use Rattle.queue.specs.Spelled.{spelled_all, AllSpellable, FollowsQueue, back_to_back, FiveSections}
use Rattle.queue.specs.Counting.{Reports}
use Rattle.queue.specs.Bodies.{body_of}
use Rattle.queue.specs.declared.Ends.{Ends}
use Rattle.queue.specs.declared.Counts.{Counts}
use Rattle.layout.specs.declared.Refusal.{Refusal}
use Rattle.queue.specs.declared.QueueFiled.{QueueFiled}
use Rattle.queue.specs.History.{FiledField, History, start, put, file, queue, join, shelf_of, accepted_at, accepted_in, accepted_of}
use Rattle.queue.proofs.Histories.{tidy, greatest-card as greatest, any_order as in-any-order}
use Rattle.queue.proofs.Spelled.{cut-spelled, spelled-again, all-spellable, accepted-exactly-when, checked-exactly-when, filed-spelled}
use Rattle.queue.proofs.FiveSections.{five-filed, five-or-20, record-accepted as accepted-record}
use Rattle.queue.proofs.Counting.{queue-counts}
use Rattle.queue.proofs.QueueIsJoining.{queue-is-joining as is-joining, queue-again as once_more}
use Rattle.queue.proofs.HeldCards.{cards_put, tidy-is-history}
use Rattle.queue.proofs.RecordsAsCards.{as-if-never-sent, record-there}

-- ---- "After any fields and queues filed and any shelves joined": what the entries make is the end of a history

pub made-by-empty : (r : Shelf) → r ≡ empty_shelf → r ≡ shelf_of start
unfolding shelf_of
made-by-empty r e = e

pub made-by-putting : (h : History) (slot : ℕ) (card : Card) (r : PutDone) → r ≡ put_of (shelf_of h) slot card → r.shelf ≡ shelf_of (put slot card h)
unfolding shelf_of
made-by-putting h slot card r e = ap (λ (y : PutDone). y.shelf) e

pub made-by-filing : (h : History) (slot : ℕ) (x : FiledField) (r : Filed) → r ≡ filed_of (shelf_of h) slot x.issue x.s1 x.s3 x.s4 x.s5 x.s7 → r.shelf ≡ shelf_of (file slot x h)
unfolding shelf_of
made-by-filing h slot x r e = ap (λ (y : Filed). y.shelf) e

pub made-by-queue : (h : History) (q : List ℕ) (r : QueueFiled) → r ≡ queue_filed (shelf_of h) q → r.shelf ≡ shelf_of (queue q h)
unfolding shelf_of
made-by-queue h q r e = ap (λ (y : QueueFiled). y.shelf) e

pub made-by-joining : (g h : History) (r : Shelf) → r ≡ join_shelf (shelf_of g) (shelf_of h) → r ≡ shelf_of (join g h)
unfolding shelf_of
made-by-joining g h r e = e

-- a shelf that is read from octets, whatever they are: its cards were put
pub made-by-reading : (o : List ℕ) (r : Shelf) → r ≡ shelf_in o → (h : History) × (r ≡ shelf_of h)
made-by-reading o r e = (cards_put 64 (shelf_in o), e ∙ sym (tidy-is-history (shelf_in o) (tidy-in o)))

-- a record that is filed by itself: its five sections are filed, with which the history goes on, or it is refused with 20
pub made-by-record : (h : History) (x : Sent) (r : Filed) → r ≡ record_filed (shelf_of h) x
    → (g : History) × (r.shelf ≡ shelf_of g) × ((n : ℕ) → accepted_at n g ≡ accepted_at n h ++ accepted_of n x.slot (record_filing x))
unfolding shelf_of accepted_at accepted_of record_filed record_filing body_filing filed_of filed_by
made-by-record h x r e = by-body (body_of x.body) refl
  where
    filing-by : Option Ends → Filing
    filing-by b = body_filing x.slot x.issue x.body b

    shelf-by : (b : Option Ends) → body_of x.body ≡ b → r.shelf ≡ (filed_by (shelf_of h) x.slot (filing-by b)).shelf
    shelf-by b f = ap (λ (y : Filed). y.shelf) e ∙ ap (λ (b : Option Ends). (filed_by (shelf_of h) x.slot (filing-by b)).shelf) f

    accepted-by : (b : Option Ends) → body_of x.body ≡ b → (n : ℕ) → accepted_at n h ++ accepted_of n x.slot (filing-by b) ≡ accepted_at n h ++ accepted_of n x.slot (record_filing x)
    accepted-by b f n = ap (λ (b : Option Ends). accepted_at n h ++ accepted_of n x.slot (filing-by b)) (sym f)

    by-body : (b : Option Ends) → body_of x.body ≡ b → (g : History) × (r.shelf ≡ shelf_of g) × ((n : ℕ) → accepted_at n g ≡ accepted_at n h ++ accepted_of n x.slot (record_filing x))
    by-body None f = (h, shelf-by None f, λ n. sym (append-nil (accepted_at n h)) ∙ accepted-by None f n)
    by-body (Some ends) f =
        let s = x.body in (
          file x.slot
              (record { issue = x.issue; s1 = stretch s 0 ends.one; s3 = stretch s ends.one ends.three; s4 = stretch s ends.three ends.four; s5 = stretch s ends.four ends.five; s7 = stretch s ends.five (length s) })
              h,
          shelf-by (Some ends) f,
          accepted-by (Some ends) f,
        )

-- ---- "ever accepted": a field is filed exactly when there is such a slot, its five sections follow, and the calendar is absent or 0, and then
-- with the card of its octets

pub filing-accepted : (slot : ℕ) (x : FiledField) → ((card : Card) × (filing_of slot x.issue x.s1 x.s3 x.s4 x.s5 x.s7 ≡ accepted card)) ↔ FollowsFiling slot x.s1 x.s3 x.s4 x.s5 x.s7
filing-accepted slot x = filed-exactly-when slot x.issue x.s1 x.s3 x.s4 x.s5 x.s7

pub filing-card : (slot : ℕ) (x : FiledField) (card : Card) → filing_of slot x.issue x.s1 x.s3 x.s4 x.s5 x.s7 ≡ accepted card → (template : Template) → Follows₁ template x.s1 → card ≡ card_at template x.s1 (issue_of x.issue) x.s4
filing-card slot x = filed-card slot x.issue x.s1 x.s3 x.s4 x.s5 x.s7

-- "A caller that names no issue gets issue 0"
pub issue-not-named : issue_of None ≡ 0
issue-not-named = refl

-- and one that names an issue gets that one
pub issue-named : (n : ℕ) → issue_of (Some n) ≡ n
issue-named n = refl

-- of what the entries answer: kept or passed, exactly then
pub filing-answers : (s : Shelf) (slot : ℕ) (x : FiledField) (r : Filed) → r ≡ filed_of s slot x.issue x.s1 x.s3 x.s4 x.s5 x.s7 → AcceptedFiling r.answer ↔ FollowsFiling slot x.s1 x.s3 x.s4 x.s5 x.s7
filing-answers s slot x = answered-exactly-when slot x.issue x.s1 x.s3 x.s4 x.s5 x.s7 s

-- a queue is accepted exactly when it has at most 65,536 octets and is written by records, and these are the ones that are filed; what it is cut
-- into, written again, is the queue
pub queue-accepted : (q : List ℕ) → AllOctets q → (queue_refusal q ≡ 0) ↔ FollowsQueue q
queue-accepted = accepted-exactly-when

-- and that is what its check answers
pub queue-checked : (q : List ℕ) → AllOctets q → (checked q ≡ Ok (tt {0})) ↔ FollowsQueue q
queue-checked = checked-exactly-when

pub queue-cut : (rs : List Sent) → AllSpellable rs → cut_of record_step (spelled_all rs) ≡ record { items = rs; whole = true }
queue-cut = cut-spelled

pub queue-written-again : (q : List ℕ) → AllOctets q → (cut_of record_step q).whole ≡ true → (spelled_all (cut_of record_step q).items ≡ q) × AllSpellable (cut_of record_step q).items
queue-written-again q o w = (spelled-again q o w, all-spellable q)

pub queue-of-records : (s : Shelf) (rs : List Sent) → AllSpellable rs → length (spelled_all rs) ≤ 65536 → queue_filed s (spelled_all rs) ≡ accepted_queue (records_filed (from_start s) rs)
queue-of-records = filed-spelled

-- five sections back to back are a record's body and filed as these; a body that is not exactly five is refused with 20
pub record-of-five : (slot : ℕ) (issue : Option ℕ) (s1 s3 s4 s5 s7 : List ℕ) → Sized s1 → Sized s3 → Sized s4 → Sized s5 → Sized s7
    → record_filing (record { slot = slot; issue = issue; body = back_to_back s1 s3 s4 s5 s7 }) ≡ filing_of slot issue s1 s3 s4 s5 s7
record-of-five slot issue s1 s3 s4 s5 s7 z1 z3 z4 z5 z7 = five-filed s1 s3 s4 s5 s7 z1 z3 z4 z5 z7 slot issue

pub record-five-or-20 : (r : Sent) → ((x : FiveSections r.body) × (record_filing r ≡ filing_of r.slot r.issue x.s1 x.s3 x.s4 x.s5 x.s7)) ⊎ ((FiveSections r.body → ⊥) × (record_filing r ≡ refused_filing 20 0 0))
record-five-or-20 = five-or-20

pub record-accepted : (r : Sent) → ((card : Card) × (record_filing r ≡ accepted card)) ↔ ((x : FiveSections r.body) × FollowsFiling r.slot x.s1 x.s3 x.s4 x.s5 x.s7)
record-accepted = accepted-record

-- ---- a card: the real reference time, the issue and octets 8-34 of section 4, by octet numbers; 17 looks at octet 24

pub card-by-octets : (s1 : List ℕ) (one : List Value) (issue : ℕ) (s4 : List ℕ) → outcome₁ s1 ≡ read one →
    (template : Template) × Follows₁ template s1 × (card_of one issue s4 ≡ card_at template s1 issue s4) × ((foreign_calendar one ≡ false) ↔ Gregorian template s1)
card-by-octets = card-octets

-- ---- "Order: real year, month, day, hour, minute, second, issue, all as numbers, then the 27 octets from the left": the first of these in which
-- two cards differ decides, and real years have a sign

pub year-decides : (a b : Card) → a.year ≢ b.year → less_card a b ≡ lt_z a.year b.year
unfolding key_of
year-decides a b d = key-decides a b [] [] a.year b.year _ _ refl refl refl d

pub month-decides : (a b : Card) → a.year ≡ b.year → a.month ≢ b.month → less_card a b ≡ ltb a.month b.month
unfolding key_of
month-decides a b year d = number-decides a b _ _ a.month b.month _ _ refl refl (λ i. year i ∷ []) d

pub day-decides : (a b : Card) → a.year ≡ b.year → a.month ≡ b.month → a.day ≢ b.day → less_card a b ≡ ltb a.day b.day
unfolding key_of
day-decides a b year month d = number-decides a b _ _ a.day b.day _ _ refl refl (λ i. year i ∷ pos (month i) ∷ []) d

pub hour-decides : (a b : Card) → a.year ≡ b.year → a.month ≡ b.month → a.day ≡ b.day → a.hour ≢ b.hour → less_card a b ≡ ltb a.hour b.hour
unfolding key_of
hour-decides a b year month day d = number-decides a b _ _ a.hour b.hour _ _ refl refl (λ i. year i ∷ pos (month i) ∷ pos (day i) ∷ []) d

pub minute-decides : (a b : Card) → a.year ≡ b.year → a.month ≡ b.month → a.day ≡ b.day → a.hour ≡ b.hour → a.minute ≢ b.minute → less_card a b ≡ ltb a.minute b.minute
unfolding key_of
minute-decides a b year month day hour d = number-decides a b _ _ a.minute b.minute _ _ refl refl (λ i. year i ∷ pos (month i) ∷ pos (day i) ∷ pos (hour i) ∷ []) d

pub second-decides : (a b : Card) → a.year ≡ b.year → a.month ≡ b.month → a.day ≡ b.day → a.hour ≡ b.hour → a.minute ≡ b.minute → a.second ≢ b.second
    → less_card a b ≡ ltb a.second b.second
unfolding key_of
second-decides a b year month day hour minute d = number-decides a b _ _ a.second b.second _ _ refl refl (λ i. year i ∷ pos (month i) ∷ pos (day i) ∷ pos (hour i) ∷ pos (minute i) ∷ []) d

same-time : (a b : Card) → SameTime a b → time_of a ≡ time_of b
same-time a b t = λ i. t.year i ∷ pos (t.month i) ∷ pos (t.day i) ∷ pos (t.hour i) ∷ pos (t.minute i) ∷ pos (t.second i) ∷ []

pub issue-decides : (a b : Card) → SameTime a b → a.issue ≢ b.issue → less_card a b ≡ ltb a.issue b.issue
unfolding key_of
issue-decides a b t d = number-decides a b (time_of a) (time_of b) a.issue b.issue _ _ refl refl (same-time a b t) d

-- k octets from the left are the same, and then comes the one that decides
pub octet-decides : (a b : Card) (k : ℕ) → SameTime a b → a.issue ≡ b.issue → k < length a.product → k < length b.product → take k a.product ≡ take k b.product
    → get_or a.product k 0 ≢ get_or b.product k 0 → less_card a b ≡ ltb (get_or a.product k 0) (get_or b.product k 0)
octet-decides a b k t issue h l before d =
    number-decides a b _ _ (get_or a.product k 0) (get_or b.product k 0) _ _ (key-at a k h) (key-at b k l)
    (λ i. same-time a b t i ++ (pos (issue i) ∷ map pos (before i))) d

-- a later time is greater, whatever the issues
pub later-time : (a b : Card) → lex lt_z (time_of a) (time_of b) ≡ true → less_card a b ≡ true
unfolding less_card key_of
later-time a b h = lex-front lt_z (time_of a) (time_of b) _ _ refl h

-- the order is strict and total, so of two cards that differ one is less; "cards equal in all of it are one card"
pub less-irreflexive : (a : Card) → less_card a a ≡ false
less-irreflexive = card-strict.irrefl

pub less-asymmetric : (a b : Card) → less_card a b ≡ true → less_card b a ≡ false
less-asymmetric = asym card-strict

pub less-transitive : (a b c : Card) → less_card a b ≡ true → less_card b c ≡ true → less_card a c ≡ true
less-transitive = card-strict.trans

pub less-total : (a b : Card) → a ≢ b → (less_card a b ≡ true) ⊎ (less_card b a ≡ true)
less-total = either_less card-strict

pub one-card : (a b : Card) → less_card a b ≡ false → less_card b a ≡ false → a ≡ b
one-card = card-strict.total

-- ---- "a held card beats an empty slot"; and of two held slots the cards decide

pub held-beats-empty : (x : Slot) (card : Card) → x ≡ blank → less_slot x (holding card) ≡ true
held-beats-empty x card e = ap (λ (y : Slot). less_slot y (holding card)) e ∙ blank-below card

pub held-by-cards : (a b : Card) → less_slot (holding a) (holding b) ≡ less_card a b
held-by-cards = by-cards

-- ---- "each slot holds the greatest card ever accepted for it, here or in a shelf joined in directly or through others, or is empty"

pub greatest-card : (h : History) (slot : ℕ) → slot < 64 → Keeps (accepted_at slot h) (slot_at (shelf_of h) slot)
greatest-card = greatest

-- ---- "in any order and with repeats": shelves for whose slots the same cards were accepted are one shelf

pub any_order : (g h : History) → ((slot : ℕ) → slot < 64 → (c : Card) → Memᴰ c (accepted_at slot g) → Memᴰ c (accepted_at slot h))
    → ((slot : ℕ) → slot < 64 → (c : Card) → Memᴰ c (accepted_at slot h) → Memᴰ c (accepted_at slot g)) → shelf_of g ≡ shelf_of h
any_order = in-any-order

-- ---- "So joining commutes, associates and is idempotent"

pub join-commutes : (a b : Shelf) → join_shelf a b ≡ join_shelf b a
join-commutes = shelf-join.comm

pub join-associates : (a b c : Shelf) → join_shelf (join_shelf a b) c ≡ join_shelf a (join_shelf b c)
join-associates = shelf-join.assoc

pub join-idempotent : (a : Shelf) → join_shelf a a ≡ a
join-idempotent = shelf-join.idem

-- ---- "and filing a queue equals joining the shelf which that queue makes from empty"

pub queue-is-joining : (q : List ℕ) (h : History) → shelf_of (queue q h) ≡ join_shelf (shelf_of h) (shelf_of (queue q start))
unfolding shelf_of
queue-is-joining q h = is-joining q (shelf_of h) (tidy h)

-- so the same queue again changes nothing more
pub queue-again : (q : List ℕ) (h : History) → shelf_of (queue q (queue q h)) ≡ shelf_of (queue q h)
unfolding shelf_of
queue-again q h = once_more q (shelf_of h) (tidy h)

-- ---- "Filing a queue reports kept (the slot changed), passed (it did not) and refused; the three sum to the records": the counts are defined by
-- the slots before and after each record, and by what its filing is. Every shelf has 64 slots

said-by : (s : Shelf) (slot : ℕ) (f : Filing) (r : Filed) → length s.slots ≡ 64 → ((card : Card) → f ≡ accepted card → slot < 64) → r ≡ filed_by s slot f → Said s slot f r.shelf r.answer
said-by s slot f r long there e = subst (λ (y : Filed). Said s slot f y.shelf y.answer) (sym e) (said s slot f long there)

pub filing-says : (s : Shelf) (slot : ℕ) (x : FiledField) (r : Filed) → length s.slots ≡ 64 → r ≡ filed_of s slot x.issue x.s1 x.s3 x.s4 x.s5 x.s7
    → Said s slot (filing_of slot x.issue x.s1 x.s3 x.s4 x.s5 x.s7) r.shelf r.answer
unfolding filed_of
filing-says s slot x r long = said-by s slot _ r long (slot-there slot x.issue x.s1 x.s3 x.s4 x.s5 x.s7)

pub record-says : (s : Shelf) (x : Sent) (r : Filed) → length s.slots ≡ 64 → r ≡ record_filed s x → Said s x.slot (record_filing x) r.shelf r.answer
unfolding record_filed
record-says s x r long = said-by s x.slot (record_filing x) r long (record-there x)

-- of a card that is put by itself: it is said to have changed its slot exactly when it did
pub putting-says : (s : Shelf) (slot : ℕ) (card : Card) (r : PutDone) → length s.slots ≡ 64 → r ≡ put_of s slot card
    → (r.changed ≡ true → slot_at r.shelf slot ≢ slot_at s slot) × (r.changed ≡ false → r.shelf ≡ s)
putting-says s slot card r long e =
    subst⁻¹ (λ (y : PutDone). (y.changed ≡ true → slot_at y.shelf slot ≢ slot_at s slot) × (y.changed ≡ false → y.shelf ≡ s)) e
    (changed-differs s slot card long, unchanged-same s slot card long)

pub queue-reports : (s : Shelf) (q : List ℕ) (r : QueueFiled) (n : Counts) → r ≡ queue_filed s q → r.answer ≡ Ok n → Reports s (cut_of record_step q).items n
queue-reports s q r n e f =
    queue-counts q s (record { shelf = r.shelf; counts = n }) (sym e ∙ ap (λ (a : Result Counts Refusal). record { shelf = r.shelf; answer = a }) f)

-- ---- a refused field, record or queue counts as never sent

pub refused-field : (slot : ℕ) (x : FiledField) (h : History) (number section place : ℕ) → filing_of slot x.issue x.s1 x.s3 x.s4 x.s5 x.s7 ≡ refused_filing number section place
    → (shelf_of (file slot x h) ≡ shelf_of h) × ((n : ℕ) → accepted_at n (file slot x h) ≡ accepted_at n h)
unfolding shelf_of accepted_at accepted_of filed_of filed_by
refused-field slot x h number section place e = (
  ap (λ (f : Filing). (filed_by (shelf_of h) slot f).shelf) e,
  (λ n. ap (λ (f : Filing). accepted_at n h ++ accepted_of n slot f) e ∙ append-nil (accepted_at n h)),
)

pub refused-record : (earlier later : List Sent) (r : Sent) (s : Shelf) (number section place : ℕ) → record_filing r ≡ refused_filing number section place
    → (records_filed (from_start s) (earlier ++ (r ∷ later))).shelf ≡ (records_filed (from_start s) (earlier ++ later)).shelf
refused-record earlier later r s = as-if-never-sent earlier later r (from_start s)

pub refused-queue : (q : List ℕ) (h : History) → eqb (queue_refusal q) 0 ≡ false → (shelf_of (queue q h) ≡ shelf_of h) × ((n : ℕ) → accepted_at n (queue q h) ≡ accepted_at n h)
unfolding shelf_of accepted_at accepted_in queue_filed
refused-queue q h e = (
  ap (λ (t : Bool). (cond t (accepted_queue (records_filed (from_start (shelf_of h)) (cut_of record_step q).items)) (refused_queue (shelf_of h) (queue_refusal q))).shelf) e,
  (λ n. ap (λ (t : Bool). accepted_at n h ++ accepted_in n (cond t (cut_of record_step q).items [])) e ∙ append-nil (accepted_at n h)),
)
