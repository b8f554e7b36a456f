-- Each entry for C answers 0, or a refusal with a number from document 01; two refusals with one number are one.
-- Assumes nothing.
use Prim.Native.Nat.{ℕ, ◌≤◌, ◌<◌}
use native.Mathlib.Omega.{arith}
use mathlib.Core.Path.{◌≡◌, refl, sym, ap}
use mathlib.Core.Logic.{◌⊎◌, inl, inr, ⊎_elim}
use mathlib.Core.Bool.{Bool, true, false, cond, true≢false, ◌&&◌}
use mathlib.Core.List.{List, [], ◌∷◌}
use lib.Dec.{eqb, ltb, leb}
use lib.IntN.{ℤ}
use lib.ListN.{length}
use borrow.Author.Tests.{leb-true, eqb-true, eqb-false}
use Rattle.layout.specs.Outcomes.{Outcome, refused, read, refusal, Check}
use Rattle.layout.specs.Refusals.{Row, one_of, numbers_of, has_place, Listed}
use Rattle.layout.proofs.Outcomes.{either}
use Rattle.layout.proofs.Refusals.{by-test, wider, Refuses, PassedOrListed, passed, listed, placeless}
use Rattle.layout.specs.declared.Refusal.{Refusal}
use Rattle.layout.proofs.Ranges.{both_hold}
use Rattle.packing.specs.Unpacking.{unpack_outcome}
use Rattle.packing.specs.Refused.{unpack_table}
use Rattle.packing.proofs.RefusalNumbers.{unpack-refuses}
use Rattle.message.specs.Messages.{read_message}
use Rattle.message.specs.Refused.{message_table}
use Rattle.message.proofs.RefusalNumbers.{message-refuses}
use Rattle.shelf.specs.declared.Shelf.{Shelf}
use Rattle.shelf_octets.specs.ShelfOctets.{shelf_in}
use Rattle.filing.specs.declared.Change.{Change}
use Rattle.filing.specs.declared.Change.TheVariants.{Kept, Passed}
use Rattle.std.specs.Prelude.{Result, Ok, Err}
use Rattle.filing.specs.Filing.{filed_of, issue_from}
use Rattle.filing.specs.Refused.{filing_table}
use Rattle.filing.proofs.RefusalNumbers.{filing-refuses}
use Rattle.queue.specs.declared.Counts.{Counts}
use Rattle.queue.specs.Queues.{queue_filed}
use Rattle.queue.specs.Refused.{queue_table}
use Rattle.queue.proofs.RefusalNumbers.{queue-refuses}
use Rattle.lent.specs.Lent.{Done, done_both, over, if_room}
use Rattle.values.specs.Refused.{read_table}
use Rattle.values.proofs.RecordRead.{read-into-refuses}
use Rattle.skogmund.specs.Entries.{code, code_of, coded, coded_check, no_room, row_unpacked, record_told, fits, listing_told}
use Rattle.skogmund.specs.Parts.{part_told}
use Rattle.skogmund.specs.Messages.{room_for, fields_told, message_told}
use Rattle.skogmund.specs.Shelves.{is_shelf, emptied, joined, kept_in, field_kept, filed_field, queue_kept, filed_queue, slot_shown}
use Rattle.skogmund.proofs.Answered.{taken-apart}
use Rattle.demands.specs.NumbersForC.{Answers, octet_sections, room_table, message_for_c_table, slot_table, file_table, file_queue_table}

-- ---- one number, one refusal

small-section : (table : List Row) (section number : ℕ) → octet_sections table ≡ true → one_of (numbers_of table section) number ≡ true → section < 256
small-section [] section number o e = absurd (true≢false (sym e))
small-section (r ∷ rs) section number o e =
    let parts = both_hold _ _ o in
    by (eqb section r.section) refl (leb-true _ _ parts.0) (small-section rs section number parts.1) e
  where
    by : (t : Bool) → eqb section r.section ≡ t → r.section ≤ 255 → (one_of (numbers_of rs section) number ≡ true → section < 256) → one_of (cond t r.numbers (numbers_of rs section)) number ≡ true → section < 256
    by true h small rest e = omega (arith, eqb-true section r.section h)
    by false h small rest e = rest e

pub one-refusal : (table : List Row) (x y : Refusal) → octet_sections table ≡ true → Listed table x → Listed table y → code_of x ≡ code_of y → x ≡ y
one-refusal table x y o p q e =
    let same = taken-apart _ _ _ _ _ _ (small-section table _ _ o p.listed) (small-section table _ _ o q.listed) (omega (arith, p.placed.within)) (omega (arith, q.placed.within)) e in
    λ i. record { number = same.0 i; section = same.1 i; place = same.2 i }

-- ---- sections

of-outcome : (table : List Row) (o : Outcome) → Refuses table o → Answers table (coded o)
of-outcome table (refused number section place) r = inr (refusal number section place, refl, r)
of-outcome table (read vs) r = inl refl

pub unpack-answers : (five seven row : List ℕ) → Answers unpack_table (row_unpacked five seven row).answer
unfolding row_unpacked
unpack-answers five seven row = of-outcome unpack_table (unpack_outcome five seven row) (unpack-refuses five seven row)

pub read-answers : (section : ℕ) (s : List ℕ) (row : List ℤ) → Answers (read_table section) (record_told section s row).answer
unfolding record_told
read-answers section s row = by (read-into-refuses section s row)
  where
    by : {c : Check} → PassedOrListed (read_table section) c → Answers (read_table section) (coded_check c)
    by passed = inl refl
    by (listed x l) = inr (x, refl, l)

-- ---- refusals of what is lent

-- a number of no section and no place that the table lists
plainly : (table : List Row) (number : ℕ) → one_of (numbers_of table 0) number ≡ true → has_place number ≡ false → Answers table (code number 0 0)
plainly table number e f = inr (refusal number 0 0, refl, placeless table number 0 e f)

abbrev AnswersBy : {B : Type 0} → List Row → Done ℕ B → Type 0
AnswersBy table x = Answers table x.answer

room-answers : {B : Type 0} (table : List Row) (t : Bool) (after before : B) → one_of (numbers_of table 0) 18 ≡ true → Answers table (if_room 0 no_room t after before).answer
room-answers table t after before e = either (AnswersBy table) t (inl refl) (plainly table 18 e refl)

pub part-answers : (part : ℕ) (s : List ℕ) (k : ℕ) (places : List ℕ) → Answers room_table (part_told part s k places).answer
unfolding part_told
part-answers part s k places = room-answers room_table (leb 2 (length places)) _ _ refl

pub list-answers : (q text places : List ℕ) → Answers room_table (listing_told q text places).answer
unfolding listing_told
list-answers q text places = room-answers room_table (fits q text places) _ _ refl

-- what a message is refused with has its number, and 0 says that it is not refused
pub message-answers : (m spans places : List ℕ) → Answers message_for_c_table (message_told m spans places).answer
unfolding message_told
message-answers m spans places =
    let c = read_message m in
    let told : Done ℕ (List ℕ × List ℕ) = fields_told c spans places in
    by-test (λ (t : Bool). AnswersBy message_for_c_table (cond t told (done_both (code_of c.refusal) spans places))) (eqb c.refusal.number 0)
    (λ e. room-answers message_for_c_table (room_for spans places) _ _ refl)
    (λ e. ⊎_elim (λ y. absurd (eqb-false _ 0 e (ap (λ (x : Refusal). x.number) y.1))) (λ n. inr (c.refusal, refl, wider message_for_c_table message_table c.refusal refl n.1)) (message-refuses m))

pub empty-answers : (s : List ℕ) → Answers room_table (emptied s).answer
unfolding emptied
empty-answers s = room-answers room_table (is_shelf s) _ _ refl

pub join-answers : (s other : List ℕ) → Answers room_table (joined s other).answer
unfolding joined
join-answers s other = room-answers room_table (is_shelf s && is_shelf other) _ _ refl

pub slot-answers : (s : List ℕ) (slot : ℕ) (values : List ℤ) → Answers slot_table (slot_shown s slot values).answer
unfolding slot_shown
slot-answers s slot values = either (AnswersBy slot_table) (ltb 63 slot) (plainly slot_table 16 refl refl) (room-answers slot_table (is_shelf s && leb 64 (length values)) _ _ refl)

-- ---- filing

keep-answers : (table : List Row) (s places : List ℕ) (after : Shelf) (ns : List ℕ) → one_of (numbers_of table 0) 18 ≡ true → Answers table (kept_in s places after ns).answer
unfolding kept_in
keep-answers table s places after ns e = room-answers table (is_shelf s && leb (length ns) (length places)) _ _ e

pub field-answers : (s : List ℕ) (slot stored : ℕ) (s1 s3 s4 s5 s7 places : List ℕ) → Answers file_table (filed_field s slot stored s1 s3 s4 s5 s7 places).answer
unfolding filed_field field_kept
field-answers s slot stored s1 s3 s4 s5 s7 places =
    let made = filed_of (shelf_in s) slot (issue_from stored) s1 s3 s4 s5 s7 in
    either (AnswersBy file_table) (ltb 4294967296 stored) (plainly file_table 19 refl refl)
    (by made.shelf made.answer (λ x e. wider file_table filing_table x refl (filing-refuses (shelf_in s) slot (issue_from stored) s1 s3 s4 s5 s7 x e)))
  where
    by : (after : Shelf) (a : Result Change Refusal) → ((x : Refusal) → a ≡ Err x → Listed file_table x) → Answers file_table (field_kept s places after a).answer
    by after (Err x) f = inr (x, refl, f x refl)
    by after (Ok Kept) f = keep-answers file_table s places after (1 ∷ []) refl
    by after (Ok Passed) f = keep-answers file_table s places after (0 ∷ []) refl

pub queue-answers : (s q places : List ℕ) → Answers file_queue_table (filed_queue s q places).answer
unfolding filed_queue queue_kept
queue-answers s q places =
    by (queue_filed (shelf_in s) q).shelf (queue_filed (shelf_in s) q).answer (λ x e. wider file_queue_table queue_table x refl (queue-refuses (shelf_in s) q x e))
  where
    by : (after : Shelf) (a : Result Counts Refusal) → ((x : Refusal) → a ≡ Err x → Listed file_queue_table x) → Answers file_queue_table (queue_kept s places after a).answer
    by after (Err x) f = inr (x, refl, f x refl)
    by after (Ok n) f = keep-answers file_queue_table s places after (n.kept ∷ n.passed ∷ n.refused ∷ []) refl
