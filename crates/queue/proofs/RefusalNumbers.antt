-- A refusal of a record of a queue, or of a whole queue, has a number, a section and a place as document 01 has them.
-- Assumes nothing.
use Prim.Native.Nat.{ℕ}
use mathlib.Core.Path.{◌≡◌, refl, subst}
use mathlib.Core.List.{List, [], ◌∷◌}
use mathlib.Core.Bool.{Bool, true, false, cond}
use lib.ListN.{length}
use lib.Dec.{ltb, eqb}
use Rattle.std.specs.Prelude.{Option, Some, None, Result, Ok, Err}
use Rattle.layout.specs.Outcomes.{refusal}
use Rattle.layout.specs.Refusals.{one_of, Listed}
use Rattle.layout.specs.declared.Refusal.{Refusal}
use Rattle.layout.proofs.Outcomes.{either}
use Rattle.layout.proofs.Refusals.{wider, placeless}
use Rattle.shelf.specs.declared.Shelf.{Shelf}
use Rattle.cutting.specs.Cuts.{cut_of}
use Rattle.cutting.specs.Sections.{stretch}
use Rattle.filing.specs.Filing.{Filing, refused_filing, accepted, filing_of}
use Rattle.filing.specs.Refused.{filing_table}
use Rattle.filing.specs.declared.Change.{Change}
use Rattle.filing.proofs.RefusalNumbers.{RefusesFiling, refuses-filing, RefusesAnswer, answer-refuses}
use Rattle.queue.specs.Bodies.{body_of}
use Rattle.queue.specs.Queues.{Sent, body_filing, record_filing, record_filed, record_step, records_filed, from_start, queue_refusal, checked, accepted_queue, refused_queue, queue_filed}
use Rattle.queue.specs.Refused.{record_table, queue_table}
use Rattle.queue.specs.declared.Ends.{Ends}
use Rattle.queue.specs.declared.Counts.{Counts}

-- ---- a record

of-record : (f : Filing) → RefusesFiling filing_table f → RefusesFiling record_table f
of-record (refused_filing number section place) p = wider record_table filing_table (refusal number section place) refl p
of-record (accepted card) p = tt

body-refuses : (slot : ℕ) (issue : Option ℕ) (s : List ℕ) (body : Option Ends) → RefusesFiling record_table (body_filing slot issue s body)
unfolding body_filing
body-refuses slot issue s None = placeless record_table 20 0 refl refl
body-refuses slot issue s (Some e) =
    let one = stretch s 0 e.one in
    let three = stretch s e.one e.three in
    let four = stretch s e.three e.four in
    let five = stretch s e.four e.five in
    let seven = stretch s e.five (length s) in
    of-record (filing_of slot issue one three four five seven) (refuses-filing slot issue one three four five seven)

pub record-refuses : (shelf : Shelf) (r : Sent) (x : Refusal) → (record_filed shelf r).answer ≡ Err x → Listed record_table x
unfolding record_filed record_filing
record-refuses shelf r x e =
    subst (λ (a : Result Change Refusal). RefusesAnswer record_table a) e
    (answer-refuses record_table shelf r.slot (record_filing r) (body-refuses r.slot r.issue r.body (body_of r.body)))

-- ---- a queue

abbrev RefusesQueue : Result Counts Refusal → Type 0
RefusesQueue (Ok counts) = Unit {0}
RefusesQueue (Err x) = Listed queue_table x

refuses-queue : (shelf : Shelf) (q : List ℕ) → RefusesQueue (queue_filed shelf q).answer
unfolding queue_filed queue_refusal
refuses-queue shelf q = by_tests (ltb 65536 (length q)) (cut_of record_step q).whole
  where
    by_tests : (long whole : Bool) → RefusesQueue (cond (eqb (cond long 2 (cond whole 0 19)) 0) (accepted_queue (records_filed (from_start shelf) (cut_of record_step q).items)) (refused_queue shelf (cond long 2 (cond whole 0 19)))).answer
    by_tests true whole = placeless queue_table 2 0 refl refl
    by_tests false true = tt
    by_tests false false = placeless queue_table 19 0 refl refl

pub queue-refuses : (shelf : Shelf) (q : List ℕ) (x : Refusal) → (queue_filed shelf q).answer ≡ Err x → Listed queue_table x
queue-refuses shelf q x e = subst (λ (a : Result Counts Refusal). RefusesQueue a) e (refuses-queue shelf q)

-- the check alone
abbrev RefusesCheck : Result (Unit {0}) Refusal → Type 0
RefusesCheck (Ok x) = Unit {0}
RefusesCheck (Err x) = Listed queue_table x

refuses-check : (q : List ℕ) → RefusesCheck (checked q)
unfolding checked queue_refusal
refuses-check q = by_tests (ltb 65536 (length q)) (cut_of record_step q).whole
  where
    by_tests : (long whole : Bool) → RefusesCheck (cond (eqb (cond long 2 (cond whole 0 19)) 0) (Ok tt) (Err (refusal (cond long 2 (cond whole 0 19)) 0 0)))
    by_tests true whole = placeless queue_table 2 0 refl refl
    by_tests false true = tt
    by_tests false false = placeless queue_table 19 0 refl refl

pub check-refuses : (q : List ℕ) (x : Refusal) → checked q ≡ Err x → Listed queue_table x
check-refuses q x e = subst RefusesCheck e (refuses-check q)

-- its number: 0 is none
pub queue-number : (q : List ℕ) → one_of (0 ∷ 2 ∷ 19 ∷ []) (queue_refusal q) ≡ true
unfolding queue_refusal
queue-number q =
    let P : ℕ → Type 0 = λ n. one_of (0 ∷ 2 ∷ 19 ∷ []) n ≡ true in
    either P (ltb 65536 (length q)) refl (either P (cut_of record_step q).whole refl refl)
