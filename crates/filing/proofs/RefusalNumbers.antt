-- A refusal of filing has a number, a section and a place as document 01 has them.
-- Assumes nothing.
use Prim.Native.Nat.{ℕ}
use mathlib.Core.Path.{◌≡◌, refl, subst}
use mathlib.Core.List.{List}
use mathlib.Core.Bool.{Bool, true, false}
use lib.Dec.{ltb}
use Rattle.std.specs.Prelude.{Option, Result, Ok, Err}
use Rattle.layout.specs.Outcomes.{refusal}
use Rattle.layout.specs.Refusals.{Row, Listed}
use Rattle.layout.specs.declared.Refusal.{Refusal}
use Rattle.layout.proofs.Outcomes.{either}
use Rattle.layout.proofs.Refusals.{wider, placeless}
use Rattle.field.specs.Field.{FieldOutcome, refused_field, read_field, field_outcome}
use Rattle.field.specs.Refused.{field_table}
use Rattle.field.proofs.RefusalNumbers.{RefusesField, refuses-field}
use Rattle.shelf.specs.Shelves.{put_of}
use Rattle.shelf.specs.declared.Shelf.{Shelf}
use Rattle.filing.specs.Filing.{Filing, refused_filing, accepted, of_field, issue_of, foreign_calendar, filing_of, kept_if, filed_by, filed_of}
use Rattle.filing.specs.Refused.{filing_table}
use Rattle.filing.specs.declared.Change.{Change}

abbrev pub RefusesFiling : List Row → Filing → Type 0
RefusesFiling table (refused_filing number section place) = Listed table (refusal number section place)
RefusesFiling table (accepted card) = Unit {0}

of-field-refuses : (o : FieldOutcome) (issue : ℕ) (s4 : List ℕ) → RefusesField o → RefusesFiling filing_table (of_field o issue s4)
unfolding of_field
of-field-refuses (refused_field number section place) issue s4 p =
    wider filing_table field_table (refusal number section place) refl p
of-field-refuses (read_field one three four five) issue s4 p =
    either (RefusesFiling filing_table) (foreign_calendar one) (placeless filing_table 17 1 refl refl) tt

pub refuses-filing : (slot : ℕ) (issue : Option ℕ) (s1 s3 s4 s5 s7 : List ℕ) → RefusesFiling filing_table (filing_of slot issue s1 s3 s4 s5 s7)
unfolding filing_of
refuses-filing slot issue s1 s3 s4 s5 s7 =
    either (RefusesFiling filing_table) (ltb 63 slot) (placeless filing_table 16 0 refl refl)
    (of-field-refuses (field_outcome s1 s3 s4 s5 s7) (issue_of issue) s4 (refuses-field s1 s3 s4 s5 s7))

-- the answer that a filing gives
abbrev pub RefusesAnswer : List Row → Result Change Refusal → Type 0
RefusesAnswer table (Ok change) = Unit {0}
RefusesAnswer table (Err x) = Listed table x

pub answer-refuses : (table : List Row) (shelf : Shelf) (slot : ℕ) (f : Filing) → RefusesFiling table f → RefusesAnswer table (filed_by shelf slot f).answer
unfolding filed_by
answer-refuses table shelf slot (refused_filing number section place) p = p
answer-refuses table shelf slot (accepted card) p = by (put_of shelf slot card).changed
  where
    by : (t : Bool) → RefusesAnswer table (kept_if t)
    by true = tt
    by false = tt

pub filing-refuses : (shelf : Shelf) (slot : ℕ) (issue : Option ℕ) (s1 s3 s4 s5 s7 : List ℕ) (x : Refusal) → (filed_of shelf slot issue s1 s3 s4 s5 s7).answer ≡ Err x → Listed filing_table x
unfolding filed_of
filing-refuses shelf slot issue s1 s3 s4 s5 s7 x e =
    subst (λ (a : Result Change Refusal). RefusesAnswer filing_table a) e
    (answer-refuses filing_table shelf slot (filing_of slot issue s1 s3 s4 s5 s7) (refuses-filing slot issue s1 s3 s4 s5 s7))
