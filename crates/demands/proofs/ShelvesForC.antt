-- Demand 3 of the entries for C: where one answers 0, octets that say a history's shelf become those in which the shelf of the history
-- that goes on with it is written. Where it refuses, they stay (`RefusalsLeaveAll`).
-- Assumes nothing.
use Prim.Native.Nat.{ℕ, ◌<◌}
use native.Mathlib.Omega.{arith}
use mathlib.Core.Path.{◌≡◌, refl, sym, ap, ap₂, subst⁻¹, ◌∙◌}
use mathlib.Core.Bool.{Bool, true, false, cond, ◌&&◌}
use mathlib.Core.List.{List, [], ◌∷◌}
use lib.Dec.{ltb, leb}
use lib.IntN.{ℤ}
use lib.ListN.{length}
use borrow.Author.Tests.{ltb-false}
use Rattle.octets.specs.Octets.{AllOctets}
use Rattle.shelf.specs.declared.Shelf.{Shelf}
use Rattle.shelf.specs.Shelves.{slot_at, join_shelf}
use Rattle.shelf_octets.specs.ShelfOctets.{shelf_in, as_octets, join_octets}
use Rattle.shelf_octets.proofs.Laws.{empty-zeros}
use Rattle.filing.specs.Filing.{filed_of, issue_from}
use Rattle.cutting.specs.Cuts.{cut_of}
use Rattle.queue.specs.Queues.{record_step, queue_filed}
use Rattle.queue.specs.Counting.{Reports}
use Rattle.queue.specs.declared.Counts.{Counts}
use Rattle.std.specs.Prelude.{Result, Ok, Err}
use Rattle.layout.specs.declared.Refusal.{Refusal}
use Rattle.queue.proofs.Counting.{queue-counts}
use Rattle.queue.specs.History.{History, start, file, queue, join, shelf_of}
use Rattle.lent.specs.Lent.{Done, done, done_both, over, with_count, if_room}
use Rattle.lent.proofs.Answers.{room-lent}
use Rattle.skogmund.specs.Entries.{code, no_room}
use Rattle.skogmund.specs.Shelves.{is_shelf, emptied, joined, filed_field, FieldTold, filed_queue, QueueTold, slot_numbers, slot_shown}
use Rattle.skogmund.proofs.Answered.{no-room-refuses, field-left, queue-left}
use Rattle.demands.specs.Histories.{Given, Leaves, Writes, field_of}
use Rattle.demands.proofs.ShelvesAsOctets.{issue-small, writes}

-- 0 says that there was room
left_by : {B : Type 0} (t : Bool) (after before later : B) → done 0 later ≡ if_room 0 no_room t after before → later ≡ after
left_by = room-lent 0 no_room no-room-refuses

pub c-empties : (s s' : List ℕ) → done 0 s' ≡ emptied s → Writes start s'
unfolding emptied Given shelf_of
c-empties s s' e = writes start s' tt (left_by (is_shelf s) _ s s' e ∙ sym empty-zeros)

pub c-joins : (g h : History) (s other s' : List ℕ) → Leaves g s → Leaves h other → done 0 s' ≡ joined s other → Writes (join g h) s'
unfolding joined Given shelf_of
c-joins g h s other s' l m e =
    writes (join g h) s' (l.given, m.given)
    (left_by (is_shelf s && is_shelf other) (join_octets s other) s s' e ∙ ap₂ (λ (a b : Shelf). as_octets (join_shelf a b)) l.says m.says)

pub c-files : (h : History) (s : List ℕ) (slot stored : ℕ) (s1 s3 s4 s5 s7 places s' places' : List ℕ) → Leaves h s → AllOctets s1 → done_both 0 s' places' ≡ filed_field s slot stored s1 s3 s4 s5 s7 places
    → Writes (file slot (field_of stored s1 s3 s4 s5 s7) h) s'
unfolding Given shelf_of
c-files h s slot stored s1 s3 s4 s5 s7 places s' places' l a e =
    let x = field-left s slot stored s1 s3 s4 s5 s7 places (sym (ap (λ (x : Done ℕ (List ℕ × List ℕ)). x.answer) e)) in
    writes (file slot (field_of stored s1 s3 s4 s5 s7) h) s' (a, issue-small stored x.0.0, l.given)
    (ap (λ (x : Done ℕ (List ℕ × List ℕ)). x.lent.0) e ∙ x.1.0 ∙ ap (λ (y : Shelf). as_octets (filed_of y slot (issue_from stored) s1 s3 s4 s5 s7).shelf) l.says)

pub c-files-queue : (h : History) (s q places s' places' : List ℕ) → Leaves h s → AllOctets q → done_both 0 s' places' ≡ filed_queue s q places → Writes (queue q h) s'
unfolding Given shelf_of
c-files-queue h s q places s' places' l a e =
    let x = queue-left s q places (sym (ap (λ (x : Done ℕ (List ℕ × List ℕ)). x.answer) e)) in
    writes (queue q h) s' (a, l.given)
    (ap (λ (x : Done ℕ (List ℕ × List ℕ)). x.lent.0) e ∙ x.2.0 ∙ ap (λ (y : Shelf). as_octets (queue_filed y q).shelf) l.says)

-- what the history's slot holds; `greatest-card` says which card that is
pub c-shows : (h : History) (s : List ℕ) (slot : ℕ) (values values' : List ℤ) → Leaves h s → done 0 values' ≡ slot_shown s slot values
    → (slot < 64) × (values' ≡ with_count (slot_numbers (slot_at (shelf_of h) slot)) values)
unfolding slot_shown
c-shows h s slot values values' l e = by (ltb 63 slot) refl e
  where
    by : (t : Bool) → ltb 63 slot ≡ t → done 0 values' ≡ cond t (done (code 16 0 0) values) (if_room 0 no_room (is_shelf s && leb 64 (length values)) (with_count (slot_numbers (slot_at (shelf_in s) slot)) values) values)
        → (slot < 64) × (values' ≡ with_count (slot_numbers (slot_at (shelf_of h) slot)) values)
    by true f e = absurd (omega (arith, ap (λ (x : Done ℕ (List ℤ)). x.answer) e))
    by false f e =
        let small = ltb-false 63 slot f in
        (omega (arith, small), left_by (is_shelf s && leb 64 (length values)) _ values values' e ∙ ap (λ (y : Shelf). with_count (slot_numbers (slot_at y slot)) values) l.says)

-- ---- what is told beside the shelf: whether a field was kept, which `filing-says` ties to its slot, and a queue's counts

pub c-field-told : (s : List ℕ) (slot stored : ℕ) (s1 s3 s4 s5 s7 places s' places' : List ℕ) → done_both 0 s' places' ≡ filed_field s slot stored s1 s3 s4 s5 s7 places
    → FieldTold (filed_of (shelf_in s) slot (issue_from stored) s1 s3 s4 s5 s7).answer places places'
c-field-told s slot stored s1 s3 s4 s5 s7 places s' places' e =
    let x = field-left s slot stored s1 s3 s4 s5 s7 places (sym (ap (λ (x : Done ℕ (List ℕ × List ℕ)). x.answer) e)) in
    subst⁻¹ (λ (l : List ℕ). FieldTold (filed_of (shelf_in s) slot (issue_from stored) s1 s3 s4 s5 s7).answer places l) (ap (λ (x : Done ℕ (List ℕ × List ℕ)). x.lent.1) e) x.1.1

pub c-queue-told : (s q places s' places' : List ℕ) → done_both 0 s' places' ≡ filed_queue s q places
    → (n : Counts) × Reports (shelf_in s) (cut_of record_step q).items n × (places' ≡ over places (n.kept ∷ n.passed ∷ n.refused ∷ []))
c-queue-told s q places s' places' e =
    let x = queue-left s q places (sym (ap (λ (x : Done ℕ (List ℕ × List ℕ)). x.answer) e)) in
    by (queue_filed (shelf_in s) q).answer refl (subst⁻¹ (λ (l : List ℕ). QueueTold (queue_filed (shelf_in s) q).answer places l) (ap (λ (x : Done ℕ (List ℕ × List ℕ)). x.lent.1) e) x.2.1)
  where
    by : (a : Result Counts Refusal) → (queue_filed (shelf_in s) q).answer ≡ a → QueueTold a places places'
        → (n : Counts) × Reports (shelf_in s) (cut_of record_step q).items n × (places' ≡ over places (n.kept ∷ n.passed ∷ n.refused ∷ []))
    by (Ok n) f t =
        (n, queue-counts q (shelf_in s) (record { shelf = (queue_filed (shelf_in s) q).shelf; counts = n }) (ap (λ (a : Result Counts Refusal). record { shelf = (queue_filed (shelf_in s) q).shelf; answer = a }) f), t)
    by (Err x) f t = absurd t
