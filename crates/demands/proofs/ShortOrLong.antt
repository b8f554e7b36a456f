-- Request 01, "Short or long?", sentence by sentence.
-- Assumes nothing.

-- "Keep 11 for a section shorter than its total and give the longer one a number of its own. For 11 the place shall be the lent length plus one; for
-- the other, the first octet beyond the total." and "21, a section longer than its total, tested where 11 is and naming its section": given that no
-- lower refusal is given (`NoLower`), 11 exactly when shorter, 21 exactly when longer, each with its place, and accepted only when equal (`ByTotal`, both
-- `layout/specs/Totals.antt`). It is one law over every section whose reasons, once its template is known, are `layout`'s with a total, if what it
-- tests behind the total is refused with neither 11 nor 21. And a lower refusal is given whatever the total is.
pub use Rattle.layout.proofs.Totals.{behind-lower, template-by-total, lower-whatever-total}
-- "In 01's 4.8 example 79 octets becomes 21, place 79.": `starred-cases`.
-- The rest are the theorems of this file.
use Prim.Native.Nat.{ℕ, ◌+◌, ◌*◌, ◌≤◌}
use native.Mathlib.Omega.{arith}
use mathlib.Core.Path.{◌≡◌, refl, sym, ap, subst, ◌∙◌}
use mathlib.Core.Bool.{true}
use mathlib.Core.List.{List, ◌++◌, Memᴰ}
use lib.IntN.{ℤ}
use lib.ListN.{length}
use borrow.Author.Tests.{le-ltb}
use Rattle.octets.specs.Octets.{be_at}
use Rattle.layout.specs.Fields.{Value}
use Rattle.layout.specs.Outcomes.{Outcome, refused, read, refusal, told, and_then}
use Rattle.layout.specs.declared.Refusal.{Refusal}
use Rattle.layout.specs.Totals.{NoLower, RefusedWith, ByTotal, Resized}
use Rattle.layout.specs.Refusals.{Row}
use Rattle.layout.specs.Examples.{AllAgree}
use Rattle.layout.proofs.Refusals.{Refuses, lacks, never-listed}
use Rattle.identification.specs.Section1 as one
use Rattle.identification.specs.Accepted.{ReadBy, Follows₁}
use Rattle.identification.specs.Refused.{table₁}
use Rattle.identification.specs.declared.Identification.{Identification}
use Rattle.identification.specs.declared.Template.{Template as Template₁}
use Rattle.identification.proofs.RefusalNumbers.{refuses₁}
use Rattle.identification.proofs.ShortOrLong.{short-or-long₁, resized₁}
use Rattle.identification.proofs.StarredYears.{years-agree}
use Rattle.grid.specs.Templates.{base_end, total}
use Rattle.grid.specs.Accepted.{number_of, Follows₃}
use Rattle.grid.specs.Section3 as three
use Rattle.grid.specs.Blocks.{values_in as values_in₃}
use Rattle.grid.specs.declared.blocks.Grid.{Grid}
use Rattle.grid.specs.declared.templates.Template.{Template as Template₃}
use Rattle.grid.proofs.ShortOrLong.{short-or-long₃, resized₃}
use Rattle.grid.proofs.StarredGrids.{grids-agree}
use Rattle.product.specs.Section4 as four
use Rattle.product.specs.Templates.{total as total₄}
use Rattle.product.specs.Table.{TemplateRow, templates₄, count_in, is_timed}
use Rattle.product.specs.Accepted.{Follows₄}
use Rattle.product.specs.Blocks.{values_in as values_in₄}
use Rattle.product.specs.declared.blocks.Product.{Product}
use Rattle.product.proofs.ShortOrLong.{short-or-long₄, resized₄}
use Rattle.product.proofs.StarredProducts.{products-agree}
use Rattle.packing.specs.Section5 as five
use Rattle.packing.specs.Section7.{outcome₇}
use Rattle.packing.specs.Accepted.{Follows₅}
use Rattle.packing.specs.Refused.{table₅, table₇}
use Rattle.packing.specs.Unpacking.{unpack_outcome}
use Rattle.packing.specs.declared.Packing.{Packing}
use Rattle.packing.proofs.RefusalNumbers.{refuses₅, refuses₇}
use Rattle.packing.proofs.ShortOrLong.{short-or-long₅, resized₅}
use Rattle.packing.proofs.StarredPacking.{packing-agrees}
use Rattle.field.specs.Field.{FieldOutcome, refused_field, onward, packed_outcome, field_outcome}
use Rattle.shelf.specs.declared.Shelf.{Shelf}
use Rattle.filing.specs.Filing.{Filing, of_field, filing_of, filed_by, issue_from, filed_of}
use Rattle.std.specs.Prelude.{Option, Result, Err}
use Rattle.queue.specs.Queues.{Sent, record_filing, record_filed}
use Rattle.queue.specs.Spelled.{FiveSections}
use Rattle.queue.proofs.FiveSections.{five-filed}
use Rattle.text.specs.Text.{ascii, spaced, ended}
use Rattle.report.specs.Texts.{issue_text, record_line}
use Rattle.values.specs.Records.{section_outcome, into_row}
use Rattle.shelf_octets.specs.ShelfOctets.{shelf_in}
use Rattle.skogmund.specs.Entries.{code, row_unpacked, record_told}
use Rattle.skogmund.specs.Shelves.{field_kept, filed_field}
use Rattle.demands.specs.ShortOrLong.{short_or_long}
use Rattle.demands.proofs.Starred.{both}

-- ---- so of each section that has a total, by the total that its own octets give, and of every answer that its reader's contract allows

of-answer : {section total : ℕ} {s : List ℕ} {said o : Outcome} → said ≡ o → (NoLower o → ByTotal section total s o) → NoLower said → ByTotal section total s said
of-answer {section} {total} {s} e law = subst (λ (x : Outcome). NoLower x → ByTotal section total s x) (sym e) law

pub section-1-by-total : (template : Template₁) (s : List ℕ) (a : Result Identification Refusal) → told one.values_in a ≡ one.outcome₁ s → ReadBy template s → NoLower (told one.values_in a) → ByTotal 1 (one.total template) s (told one.values_in a)
section-1-by-total template s a e by = of-answer e (short-or-long₁ template s by)

pub section-3-by-total : (template : Template₃) (s : List ℕ) (a : Result Grid Refusal) → told values_in₃ a ≡ three.outcome₃ s → be_at s 13 2 ≡ number_of template → NoLower (told values_in₃ a) → ByTotal 3 (total template s) s (told values_in₃ a)
section-3-by-total template s a e names = of-answer e (short-or-long₃ template s names)

pub section-4-by-total : (row : TemplateRow) (s : List ℕ) (a : Result Product Refusal) → told values_in₄ a ≡ four.outcome₄ s → Memᴰ row templates₄ → be_at s 8 2 ≡ row.number → NoLower (told values_in₄ a)
    → ByTotal 4 (row.octets + 12 * count_in row.ranges s + count_in row.members s + 4 * be_at s 6 2) s (told values_in₄ a)
section-4-by-total row s a e m names = of-answer e (short-or-long₄ row s m names)

pub section-5-by-total : (s : List ℕ) (a : Result Packing Refusal) → told five.values_in₅ a ≡ five.outcome₅ s → NoLower (told five.values_in₅ a) → ByTotal 5 21 s (told five.values_in₅ a)
section-5-by-total s a e = of-answer e (short-or-long₅ s)

-- What "our radio crew" sees: a section that is accepted, when it was clipped or has got a tail and says in octets 1-4 how long it is (`Resized`,
-- `layout/specs/Totals.antt`), is refused with 11 at the first octet that is lost, or with 21 at the first octet of the tail. That is, if it keeps its
-- template's smallest total, below which it is 7, and has no more than 65,536 octets. Of a section 1 of 21 octets, octets 22-23 of a tail are a
-- template number.

pub section-1-resized : (template : Template₁) (s t : List ℕ) (a : Result Identification Refusal) → told one.values_in a ≡ one.outcome₁ t → Follows₁ template s → (length s ≡ 21 → ⊥) → Resized s t → one.total template ≤ length t → length t ≤ 65536
    → ByTotal 1 (length s) t (told one.values_in a)
section-1-resized template s t a e f has-template r enough small = subst (ByTotal 1 (length s) t) (sym e) (resized₁ s t r has-template template f enough small)

pub section-3-resized : (template : Template₃) (s t : List ℕ) (a : Result Grid Refusal) → told values_in₃ a ≡ three.outcome₃ t → Follows₃ template s → Resized s t → base_end template ≤ length t → length t ≤ 65536
    → ByTotal 3 (length s) t (told values_in₃ a)
section-3-resized template s t a e f r enough small = subst (ByTotal 3 (length s) t) (sym e) (resized₃ template s t f r enough small)

pub section-4-resized : (row : TemplateRow) (s t : List ℕ) (a : Result Product Refusal) → told values_in₄ a ≡ four.outcome₄ t → Follows₄ row s → Resized s t → total₄ row.part (is_timed row) 1 0 0 ≤ length t → length t ≤ 65536
    → ByTotal 4 (length s) t (told values_in₄ a)
section-4-resized row s t a e f r enough small = subst (ByTotal 4 (length s) t) (sym e) (resized₄ s t r row f enough small)

pub section-5-resized : (s t : List ℕ) (a : Result Packing Refusal) → told five.values_in₅ a ≡ five.outcome₅ t → Follows₅ s → Resized s t → 21 ≤ length t → length t ≤ 65536 → ByTotal 5 (length s) t (told five.values_in₅ a)
section-5-resized s t a e f r enough small = subst (ByTotal 5 (length s) t) (sym e) (resized₅ s t f r enough small)

-- 21 is tested where 11 is: 13 is given only where the section has its total
pub section-3-points-last : (template : Template₃) (s : List ℕ) (a : Result Grid Refusal) → told values_in₃ a ≡ three.outcome₃ s → be_at s 13 2 ≡ number_of template → RefusedWith 13 (told values_in₃ a) → length s ≡ total template s
section-3-points-last template s a e names = by (told values_in₃ a) (section-3-by-total template s a e names)
  where
    by : (o : Outcome) → (NoLower o → ByTotal 3 (total template s) s o) → RefusedWith 13 o → length s ≡ total template s
    by (refused number section place) law h = (law (omega (arith, h))).whole (λ x. omega (arith, h, x)) (λ x. omega (arith, h, x))
    by (read vs) law h = absurd h

-- sections 1 and 5 that are shorter than their total are caught by 7 at the latest, and get no 11; section 7 gets neither, and keeps its 15

pub never-refused : (number : ℕ) (table : List Row) (o : Outcome) → lacks number table ≡ true → Refuses table o → RefusedWith number o → ⊥
never-refused number table (refused n section place) l r e = never-listed number table section l (rw e at r.listed)
never-refused number table (read vs) l r e = e

pub section-1-never-11 : (s : List ℕ) → RefusedWith 11 (one.outcome₁ s) → ⊥
section-1-never-11 s = never-refused 11 table₁ (one.outcome₁ s) refl (refuses₁ s)

pub section-5-never-11 : (s : List ℕ) → RefusedWith 11 (five.outcome₅ s) → ⊥
section-5-never-11 s = never-refused 11 table₅ (five.outcome₅ s) refl (refuses₅ s)

pub section-7-neither : (n bits : ℕ) (s : List ℕ) → (RefusedWith 11 (outcome₇ n bits s) → ⊥) × (RefusedWith 21 (outcome₇ n bits s) → ⊥)
section-7-neither n bits s =
    (never-refused 11 table₇ (outcome₇ n bits s) refl (refuses₇ n bits s), never-refused 21 table₇ (outcome₇ n bits s) refl (refuses₇ n bits s))

-- ---- both are met in every section that can have them, at the ends too

pub short-or-long-cases : AllAgree short_or_long
short-or-long-cases = both _ _ years-agree.1 (both _ _ grids-agree.1 (both _ _ products-agree.1 packing-agrees.1))

-- ---- "Every caller that shows or passes on a refusal follows.": with whichever number, section and place a section is refused

module _ (number section place : ℕ) where
  -- a field: that of the first of its sections 1, 3, 4 and 5 that is refused
  onto : (o rest : Outcome) (next : List Value → FieldOutcome) → ((vs : List Value) → rest ≡ refused number section place → next vs ≡ refused_field number section place) → and_then o rest ≡ refused number section place → onward o next ≡ refused_field number section place
  unfolding and_then onward
  onto (refused a b c) rest next q e = cc
  onto (read vs) rest next q e = q vs e

  pub field-hands-on : (s1 s3 s4 s5 s7 : List ℕ) → and_then (one.outcome₁ s1) (and_then (three.outcome₃ s3) (and_then (four.outcome₄ s4) (five.outcome₅ s5))) ≡ refused number section place → field_outcome s1 s3 s4 s5 s7 ≡ refused_field number section place
  unfolding field_outcome packed_outcome onward
  field-hands-on s1 s3 s4 s5 s7 =
      onto (one.outcome₁ s1) _ _ (λ a. onto (three.outcome₃ s3) _ _ (λ b. onto (four.outcome₄ s4) _ _ (λ c e. rw e)))

  -- filing it, to a slot that there is
  pub filing-hands-on : (shelf : Shelf) (slot : ℕ) (issue : Option ℕ) (s1 s3 s4 s5 s7 : List ℕ) → slot ≤ 63 → field_outcome s1 s3 s4 s5 s7 ≡ refused_field number section place
      → (filed_of shelf slot issue s1 s3 s4 s5 s7).answer ≡ Err (refusal number section place)
  unfolding filed_of filing_of of_field filed_by
  filing-hands-on shelf slot issue s1 s3 s4 s5 s7 small e = rw (le-ltb 63 slot small, e)

  -- a record of a queue, whose body is five sections
  pub record-hands-on : (shelf : Shelf) (r : Sent) (x : FiveSections r.body) → r.slot ≤ 63 → field_outcome x.s1 x.s3 x.s4 x.s5 x.s7 ≡ refused_field number section place
      → (record_filed shelf r).answer ≡ Err (refusal number section place)
  unfolding record_filed filed_of
  record-hands-on shelf r x small e =
      let filed = ap (λ (b : List ℕ). record_filing (record { slot = r.slot; issue = r.issue; body = b })) x.strung ∙ five-filed x.s1 x.s3 x.s4 x.s5 x.s7 x.sized₁ x.sized₃ x.sized₄ x.sized₅ x.sized₇ r.slot r.issue in
      ap (λ (f : Filing). (filed_by shelf r.slot f).answer) filed ∙ filing-hands-on shelf r.slot r.issue x.s1 x.s3 x.s4 x.s5 x.s7 small e

  -- the explanation's line of it
  pub line-shows : (k slot : ℕ) (issue : Option ℕ) → record_line k slot issue (Err (refusal number section place)) ≡ spaced k ++ (spaced slot ++ (issue_text issue ++ (ascii " refused " ++ (spaced number ++ (spaced section ++ ended place)))))
  unfolding record_line
  line-shows k slot issue = refl

  -- and for C: reading a section, unpacking by a section 5, filing a field
  pub read-hands-on : (asked : ℕ) (s : List ℕ) (row : List ℤ) → section_outcome asked s ≡ refused number section place → (record_told asked s row).answer ≡ code number section place
  unfolding record_told into_row
  read-hands-on asked s row e = rw e

  pub unpack-hands-on : (s5 s7 row : List ℕ) → five.outcome₅ s5 ≡ refused number section place → (row_unpacked s5 s7 row).answer ≡ code number section place
  unfolding row_unpacked unpack_outcome and_then
  unpack-hands-on s5 s7 row e = rw e

  pub file-hands-on : (s : List ℕ) (slot stored : ℕ) (s1 s3 s4 s5 s7 places : List ℕ) → stored ≤ 4294967296 → slot ≤ 63 → field_outcome s1 s3 s4 s5 s7 ≡ refused_field number section place
      → (filed_field s slot stored s1 s3 s4 s5 s7 places).answer ≡ code number section place
  unfolding filed_field field_kept
  file-hands-on s slot stored s1 s3 s4 s5 s7 places small there e =
      rw (le-ltb 4294967296 stored small, filing-hands-on (shelf_in s) slot (issue_from stored) s1 s3 s4 s5 s7 there e)
