-- Wrong programs: what they answer is not what the contracts allow; and of document 01's slips the right rule. (docs/WRONG-PROGRAMS.md has the
-- edits that try them and others.) A theorem has the name of the wrong program that it turns away.
-- Assumes nothing.
use Prim.Native.Nat.{ℕ, ◌+◌, ◌-◌, ◌<◌}
use mathlib.Core.Path.{◌≡◌, refl, sym, ap, subst⁻¹, ◌∙◌}
use mathlib.Core.Bool.{true, false}
use mathlib.Core.List.{List, [], Memᴰ}
use mathlib.Core.Logic.{◌≢◌}
use lib.ListN.{length, get_or}
use lib.IntN.{pos, neg_ℤ}
use native.Mathlib.Omega.{arith}
use Rattle.octets.specs.Octets.{be_at, top_bit, sign_of}
use Rattle.octets.proofs.Signs.{sign_low, sign_high}
use Rattle.layout.specs.Fields.{none, missing, after, placed, values_of}
use Rattle.product.specs.Blocks.{scaled}
use Rattle.card.specs.declared.Card.{Card}
use Rattle.shelf.specs.Shelves.{less_slot, holding, slot_at, empty_shelf, put_shelf, put_of}
use Rattle.shelf.specs.declared.Shelf.{Shelf}
use Rattle.shelf.specs.declared.PutDone.{PutDone}
use Rattle.shelf.proofs.NoLess.{put-takes, another-shelf, not-empty}
use Rattle.filing.specs.Filing.{Filing, accepted, filing_of, filed_by, filed_of}
use Rattle.std.specs.Prelude.{Option, Result, Ok}
use Rattle.layout.specs.declared.Refusal.{Refusal}
use Rattle.filing.specs.declared.Change.TheVariants.{Kept}
use Rattle.filing.specs.declared.Filed.{Filed}
use Rattle.filing.proofs.SaidOfTheSlots.{slot-there}
use Rattle.cutting.specs.Cuts.{cut_in, cut_of}
use Rattle.queue.specs.Queues.{Sent, record_filing, record_filed, record_step, records_filed, from_start, queue_refusal, accepted_queue, queue_filed}
use Rattle.queue.specs.declared.Counts.{Counts}
use Rattle.queue.specs.declared.Progress.{Progress}
use Rattle.queue.specs.declared.QueueFiled.{QueueFiled}
use Rattle.queue.proofs.FiledQueues.{files}
use Rattle.queue.proofs.RecordsAsCards.{record-there, records-take}
use Rattle.demands.proofs.Demand3.{filing-says}

-- ---- a shelf that stays empty or unchanged: once a card was put to a slot that is there, or accepted, the shelf is not the empty one; nor is it the
-- one before, where the slot held less. An empty slot holds less than every card (`held-beats-empty`)

-- what holds of a shelf whose slot holds no less than a card
moved : (s after : Shelf) (slot : ℕ) (card : Card) → slot < 64 → less_slot (slot_at after slot) (holding card) ≡ false
    → (less_slot (slot_at s slot) (holding card) ≡ true → after ≢ s) × (after ≢ empty_shelf)
moved s after slot card there h = ((λ less. another-shelf s after slot card less h), not-empty after slot card there h)

pub put-shelf-stays : (s : Shelf) (slot : ℕ) (card : Card) (r : PutDone) → length s.slots ≡ 64 → slot < 64 → r ≡ put_of s slot card
    → (less_slot (slot_at s slot) (holding card) ≡ true → r.shelf ≢ s) × (r.shelf ≢ empty_shelf)
put-shelf-stays s slot card r long there e =
    moved s r.shelf slot card there (subst⁻¹ (λ (y : PutDone). less_slot (slot_at y.shelf slot) (holding card) ≡ false) e (put-takes s slot card long there))

moved_by : (s : Shelf) (slot : ℕ) (f : Filing) (card : Card) (r : Filed) → length s.slots ≡ 64 → slot < 64 → f ≡ accepted card → r ≡ filed_by s slot f
    → (less_slot (slot_at s slot) (holding card) ≡ true → r.shelf ≢ s) × (r.shelf ≢ empty_shelf)
unfolding filed_by
moved_by s slot f card r long there e filed =
    let after : r.shelf ≡ put_shelf s slot card = ap (λ (y : Filed). y.shelf) filed ∙ ap (λ (f : Filing). (filed_by s slot f).shelf) e in
    moved s r.shelf slot card there (rw after (put-takes s slot card long there))

pub filed-shelf-stays : (s : Shelf) (slot : ℕ) (issue : Option ℕ) (s1 s3 s4 s5 s7 : List ℕ) (card : Card) (r : Filed) → length s.slots ≡ 64 → filing_of slot issue s1 s3 s4 s5 s7 ≡ accepted card → r ≡ filed_of s slot issue s1 s3 s4 s5 s7
    → (less_slot (slot_at s slot) (holding card) ≡ true → r.shelf ≢ s) × (r.shelf ≢ empty_shelf)
unfolding filed_of
filed-shelf-stays s slot issue s1 s3 s4 s5 s7 card r long e = moved_by s slot (filing_of slot issue s1 s3 s4 s5 s7) card r long (slot-there slot issue s1 s3 s4 s5 s7 card e) e

pub record-shelf-stays : (s : Shelf) (x : Sent) (card : Card) (r : Filed) → length s.slots ≡ 64 → record_filing x ≡ accepted card → r ≡ record_filed s x
    → (less_slot (slot_at s x.slot) (holding card) ≡ true → r.shelf ≢ s) × (r.shelf ≢ empty_shelf)
unfolding record_filed
record-shelf-stays s x card r long e = moved_by s x.slot (record_filing x) card r long (record-there x card e) e

-- ---- a queue filing that handles the first record only: of each record of a queue that is filed, if it is accepted, the slot then holds no less than
-- its card

pub first-record-only : (s : Shelf) (q : List ℕ) (r : QueueFiled) (n : Counts) (x : Sent) (card : Card) → length s.slots ≡ 64 → r ≡ queue_filed s q → r.answer ≡ Ok n
    → Memᴰ x (cut_of record_step q).items → record_filing x ≡ accepted card → less_slot (slot_at r.shelf x.slot) (holding card) ≡ false
first-record-only s q r n x card long e f m a =
    let all = files q s (record { shelf = r.shelf; counts = n }) (sym e ∙ ap (λ (a : Result Counts Refusal). record { shelf = r.shelf; answer = a }) f) in
    let after : (records_filed (from_start s) (cut_of record_step q).items).shelf ≡ r.shelf = ap (λ (p : Progress). p.shelf) all.records in
    rw after at (records-take (cut_of record_step q).items (from_start s) x card long m a)

-- so its shelf does not stay either
pub queue-shelf-stays : (s : Shelf) (q : List ℕ) (r : QueueFiled) (n : Counts) (x : Sent) (card : Card) → length s.slots ≡ 64 → r ≡ queue_filed s q → r.answer ≡ Ok n
    → Memᴰ x (cut_of record_step q).items → record_filing x ≡ accepted card → (less_slot (slot_at s x.slot) (holding card) ≡ true → r.shelf ≢ s) × (r.shelf ≢ empty_shelf)
queue-shelf-stays s q r n x card long e f m a =
    moved s r.shelf x.slot card (record-there x card a) (first-record-only s q r n x card long e f m a)

-- ---- a lent shelf that stays as it was: that is not `Kept`

pub lent-shelf-stays : (s : Shelf) (slot : ℕ) (issue : Option ℕ) (s1 s3 s4 s5 s7 : List ℕ) → length s.slots ≡ 64 → record { shelf = s; answer = Ok Kept } ≢ filed_of s slot issue s1 s3 s4 s5 s7
lent-shelf-stays s slot issue s1 s3 s4 s5 s7 long e =
    (filing-says s slot (record { issue = issue; s1 = s1; s3 = s3; s4 = s4; s5 = s5; s7 = s7 }) (record { shelf = s; answer = Ok Kept }) long e).changed refl

-- ---- a queue filing that refuses everything: the empty queue is filed, with counts 0, 0, 0

pub empty-queue : (s : Shelf) → queue_filed s [] ≡ accepted_queue (from_start s)
unfolding queue_filed queue_refusal cut_of cut_in records_filed
empty-queue s = refl

-- ---- negatives as two's complement: the top bit is the sign, the rest is the size

pub sign-and-magnitude : (width size : ℕ) → size < top_bit width → (sign_of width size ≡ pos size) × (sign_of width (top_bit width + size) ≡ neg_ℤ (pos size))
sign-and-magnitude width size h = (
  sign_low width size h,
  let rest : top_bit width + size - top_bit width ≡ size = omega arith in
      sign_high width (top_bit width + size) (omega arith) ∙ ap (λ (n : ℕ). neg_ℤ (pos n)) rest,
)

-- ---- a missing scale factor for -127: a factor of 255 is missing, wherever a scale factor and its value stand

pub factor-missing : (end : ℕ) (s : List ℕ) → be_at s (end + 1) 1 ≡ 255 → get_or (values_of (after end scaled) s) 0 none ≡ missing
unfolding values_of placed scaled
factor-missing end s h = rw h
