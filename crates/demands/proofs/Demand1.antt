-- Demand 1: "Each public entry takes every input, ends, and answers or refuses with a number from document 01. A refusal changes no shelf
-- and no lent buffer." docs/ENTRIES.md lists the entries.
-- Assumes nothing.

-- "Each public entry takes every input, ends, ..": each crate states it of each of its entries, with what the entry's contract says (`Entry`,
-- `entry/specs/Entry.antt`), and tests/entries compares these statements with the entries in the sources.
pub use Rattle.octets.proofs.Entries as octets-entries
pub use Rattle.lent.proofs.Entries as lent-entries
pub use Rattle.unpacking.proofs.Entries as unpacking-entries
pub use Rattle.layout.proofs.Entries as layout-entries
pub use Rattle.cutting.proofs.Entries as cutting-entries
pub use Rattle.identification.proofs.Entries as identification-entries
pub use Rattle.grid.proofs.Entries as grid-entries
pub use Rattle.product.proofs.Entries as product-entries
pub use Rattle.packing.proofs.Entries as packing-entries
pub use Rattle.field.proofs.Entries as field-entries
pub use Rattle.message.proofs.Entries as message-entries
pub use Rattle.card.proofs.Entries as card-entries
pub use Rattle.shelf.proofs.Entries as shelf-entries
pub use Rattle.shelf_octets.proofs.Entries as shelf-octets-entries
pub use Rattle.filing.proofs.Entries as filing-entries
pub use Rattle.queue.proofs.Entries as queue-entries
pub use Rattle.text.proofs.Entries as text-entries
pub use Rattle.report.proofs.Entries as report-entries
pub use Rattle.contents.proofs.Entries as contents-entries
pub use Rattle.values.proofs.Entries as values-entries
pub use Rattle.standard.proofs.Entries as standard-entries
pub use Rattle.skogmund.proofs.Entries as skogmund-entries
-- ".. and answers ..": for each answer type, any two answers that the contract allows for an input are one, with what was lent.
pub use Rattle.demands.proofs.OneAnswer.{one-identification, one-grid, one_product, one-packing, one-data, one_field, one-unpacking, one-filing, one_answer, one_number, one-signed, one_time, one_written, one-done, one-message}
-- ".. or refuses with a number from document 01.": its table lists the number for the section, and the place is 0 except with 8, 11
-- and 21, and then an octet that a section can have or the one behind its last. (`Refusal::of` and `Refusal::at` make the refusal that a caller
-- names. `fitting-told` is of all the checks behind the head, as a reader makes them one after the other (`fitting-checked`): `field-told` of each
-- field's, `total-told` of the total's.)
pub use Rattle.layout.proofs.Refusals.{head-told, opening-told, fitting-told, field-told, total-told}
pub use Rattle.layout.proofs.Outcomes.{fitting-checked}
pub use Rattle.identification.proofs.RefusalNumbers.{identification-refuses}
pub use Rattle.grid.proofs.RefusalNumbers.{grid-refuses}
pub use Rattle.product.proofs.RefusalNumbers.{product-refuses}
pub use Rattle.packing.proofs.RefusalNumbers.{packing-refuses, data-refuses, unpacking-refuses}
pub use Rattle.field.proofs.RefusalNumbers.{field-refuses}
pub use Rattle.message.proofs.RefusalNumbers.{message-refuses}
pub use Rattle.filing.proofs.RefusalNumbers.{filing-refuses}
pub use Rattle.queue.proofs.RefusalNumbers.{record-refuses, queue-refuses, check-refuses, queue-number}
pub use Rattle.values.proofs.RecordRead.{read-into-refuses}
-- Of the entries for C: each answers 0, or one number for a refusal that a table lists, and no two refusals have the same;
pub use Rattle.demands.proofs.NumbersForC.{unpack-answers, read-answers, part-answers, list-answers, message-answers, empty-answers, join-answers, slot-answers, field-answers, queue-answers, one-refusal}
-- it can be taken apart, and is 0 exactly where nothing is refused (of `skogmund_read`: `told-exactly-when`, demand 2)
pub use Rattle.skogmund.proofs.Answered.{taken-apart, listed-code, unpacked-exactly-when, part-exactly-when, listed-exactly-when, message-exactly-when, emptied-exactly-when, joined-exactly-when, shown-exactly-when, filed-exactly-when, queue-exactly-when}
-- "A refusal changes no shelf and no lent buffer.": the theorems of this file, and of `values::read_into` and the entries for C
pub use Rattle.values.proofs.RecordRead.{row_stays}
pub use Rattle.skogmund.proofs.RefusalsLeaveAll.{unpack-leaves, read-leaves, part-leaves, list-leaves, message-leaves, empty-leaves, join-leaves, field-leaves, queue-leaves, slot-leaves}
use Prim.Native.Nat.{ℕ}
use mathlib.Core.Path.{◌≡◌, refl, sym, ap, ◌∙◌}
use mathlib.Core.List.{List}
use mathlib.Core.Bool.{Bool, true, false, cond}
use native.Mathlib.Omega.{arith}
use lib.Dec.{eqb}
use lib.ListN.{drop}
use Rattle.layout.specs.Outcomes.{Outcome}
use Rattle.layout.specs.declared.Refusal.{Refusal}
use Rattle.unpacking.specs.Packed.{unpacked}
use Rattle.packing.specs.Section5.{values_at, bits_at}
use Rattle.packing.specs.Unpacking.{row_by, row_after, Unpacks}
use Rattle.shelf.specs.Shelves.{put_of}
use Rattle.shelf.specs.declared.Shelf.{Shelf}
use Rattle.std.specs.Prelude.{Option, Err}
use Rattle.filing.specs.Filing.{Filing, refused_filing, accepted, filing_of, kept_if, filed_by, filed_of}
use Rattle.filing.specs.declared.Filed.{Filed}
use Rattle.cutting.specs.Cuts.{cut_of}
use Rattle.queue.specs.Queues.{Sent, record_filing, record_filed, record_step, records_filed, from_start, queue_refusal, accepted_queue, refused_queue, queue_filed}

-- "A refusal changes no shelf ..": filing a field, by value and lent; a record of a queue; a queue.

not-refused : (t : Bool) (x : Refusal) → kept_if t ≡ Err x → ⊥
not-refused true x e = let z : ◌≡◌ {A = ℕ} 0 1 = cc in omega arith
not-refused false x e = let z : ◌≡◌ {A = ℕ} 0 1 = cc in omega arith

shelf-stays : (shelf : Shelf) (slot : ℕ) (f : Filing) (x : Refusal) → (filed_by shelf slot f).answer ≡ Err x → (filed_by shelf slot f).shelf ≡ shelf
unfolding filed_by
shelf-stays shelf slot (refused_filing number section place) x e = refl
shelf-stays shelf slot (accepted card) x e = absurd (not-refused (put_of shelf slot card).changed x e)

pub filing-keeps-shelf : (shelf : Shelf) (slot : ℕ) (issue : Option ℕ) (s1 s3 s4 s5 s7 : List ℕ) (x : Refusal) → (filed_of shelf slot issue s1 s3 s4 s5 s7).answer ≡ Err x → (filed_of shelf slot issue s1 s3 s4 s5 s7).shelf ≡ shelf
unfolding filed_of
filing-keeps-shelf shelf slot issue s1 s3 s4 s5 s7 x e = shelf-stays shelf slot (filing_of slot issue s1 s3 s4 s5 s7) x e

pub filing-keeps-lent-shelf : (shelf later : Shelf) (slot : ℕ) (issue : Option ℕ) (s1 s3 s4 s5 s7 : List ℕ) (x : Refusal) → record { shelf = later; answer = Err x } ≡ filed_of shelf slot issue s1 s3 s4 s5 s7 → later ≡ shelf
filing-keeps-lent-shelf shelf later slot issue s1 s3 s4 s5 s7 x e =
    ap (λ (y : Filed). y.shelf) e ∙ filing-keeps-shelf shelf slot issue s1 s3 s4 s5 s7 x (sym (ap (λ (y : Filed). y.answer) e))

pub record-keeps-shelf : (shelf : Shelf) (r : Sent) (x : Refusal) → (record_filed shelf r).answer ≡ Err x → (record_filed shelf r).shelf ≡ shelf
unfolding record_filed
record-keeps-shelf shelf r x e = shelf-stays shelf r.slot (record_filing r) x e

pub queue-keeps-shelf : (shelf : Shelf) (q : List ℕ) (x : Refusal) → (queue_filed shelf q).answer ≡ Err x → (queue_filed shelf q).shelf ≡ shelf
unfolding queue_filed
queue-keeps-shelf shelf q x e = by-refusal (eqb (queue_refusal q) 0) e
  where
    by-refusal : (t : Bool) → (cond t (accepted_queue (records_filed (from_start shelf) (cut_of record_step q).items)) (refused_queue shelf (queue_refusal q))).answer ≡ Err x → (cond t (accepted_queue (records_filed (from_start shelf) (cut_of record_step q).items)) (refused_queue shelf (queue_refusal q))).shelf ≡ shelf
    by-refusal true e = let z : ◌≡◌ {A = ℕ} 0 1 = cc in absurd (omega arith)
    by-refusal false e = refl

-- ".. and no lent buffer.": of the entries that refuse, `unpack` and those for C may change a buffer. Sections and queues are lent to be read only.

pub unpacking-keeps-row : (five seven row later : List ℕ) (x : Refusal) → Unpacks five seven row (Err x) later → later ≡ row
unfolding row_after
unpacking-keeps-row five seven row later x p =
    p.leaves ∙ ap (λ (o : Outcome). row_by o row (unpacked (bits_at five) (values_at five) (drop 5 seven))) (sym p.answers)
