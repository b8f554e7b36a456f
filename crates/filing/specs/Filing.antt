-- Filing a field to a slot: 16, then the field's refusals, then 17; otherwise the slot keeps the greater card.
-- Assumes nothing.
use Rattle.std.specs.Prelude.{ℕ, ◌-◌, ◌≡◌, ◌≢◌, List, Bool, true, false, not, cond, ltb, eqb, Option, Some, None, Result, Ok, Err}
use Rattle.octets.specs.Octets.{be_at, part}
use Rattle.layout.specs.Fields.{Value, natural_in}
use Rattle.layout.specs.Outcomes.{refusal}
use Rattle.layout.specs.declared.Refusal.{Refusal}
use Rattle.identification.specs.Section1.{real_year_at, real_year_of, month_of, day_of, hour_of, minute_of, second_of, calendar_of}
use Rattle.identification.specs.declared.Template.{Template}
use Rattle.field.specs.Field.{FieldOutcome, refused_field, read_field, field_outcome}
use Rattle.card.specs.declared.Card.{Card}
use Rattle.shelf.specs.Shelves.{less_slot, holding, slot_at, put_of}
use Rattle.shelf.specs.declared.Shelf.{Shelf}
use Rattle.shelf.specs.declared.PutDone.{PutDone}
use Rattle.filing.specs.declared.Change.{Change}
use Rattle.filing.specs.declared.Change.TheVariants.{Kept, Passed}
use Rattle.filing.specs.declared.Filed.{Filed}

-- ---- the card

-- the issue that a caller gets who names none
abbrev pub default_issue : ℕ
default_issue = 0

abbrev pub issue_of : Option ℕ → ℕ
issue_of None = default_issue
issue_of (Some n) = n

-- queues and callers store the issue + 1, and 0 where none is named
abbrev pub issue_from : ℕ → Option ℕ
issue_from stored = cond (eqb stored 0) None (Some (stored - 1))

-- a number above 4,294,967,296 stores none: 19
abbrev pub stored_issue : ℕ → Result (Option ℕ) Refusal
stored_issue stored = cond (ltb 4294967296 stored) (Err (refusal 19 0 0)) (Ok (issue_from stored))

-- the real reference time of section 1, by the values that are read of it, the issue, and octets 8-34 of section 4
unfoldable pub card_of : List Value → ℕ → List ℕ → Card
card_of one issue s4 =
    record {
      year = real_year_of one;
      month = month_of one;
      day = day_of one;
      hour = hour_of one;
      minute = minute_of one;
      second = second_of one;
      issue = issue;
      product = part s4 8 27;
    }

-- the same card by the octets of section 1
abbrev pub card_at : Template → List ℕ → ℕ → List ℕ → Card
card_at template s1 issue s4 =
    record {
      year = real_year_at template s1;
      month = be_at s1 15 1;
      day = be_at s1 16 1;
      hour = be_at s1 17 1;
      minute = be_at s1 18 1;
      second = be_at s1 19 1;
      issue = issue;
      product = part s4 8 27;
    }

-- ---- accepted or not

-- the calendar of section 1 is present and not 0; one that is not there says no number, which counts as 0
abbrev pub foreign_calendar : List Value → Bool
foreign_calendar one = not (eqb (natural_in (calendar_of one)) 0)

-- a refusal's number, section and place, or the card that is accepted
pub data Filing : Type 0 where
  refused_filing : ℕ → ℕ → ℕ → Filing
  accepted : Card → Filing

-- 17 comes after the whole field
unfoldable pub of_field : FieldOutcome → ℕ → List ℕ → Filing
of_field (refused_field number section place) issue s4 = refused_filing number section place
of_field (read_field one three four five) issue s4 =
    cond (foreign_calendar one) (refused_filing 17 1 0) (accepted (card_of one issue s4))

unfoldable pub filing_of : ℕ → Option ℕ → List ℕ → List ℕ → List ℕ → List ℕ → List ℕ → Filing
filing_of slot issue s1 s3 s4 s5 s7 =
    cond (ltb 63 slot) (refused_filing 16 0 0) (of_field (field_outcome s1 s3 s4 s5 s7) (issue_of issue) s4)

-- what a program's answer says
abbrev pub told : Result Card Refusal → Filing
told (Ok card) = accepted card
told (Err x) = refused_filing x.number x.section x.place

-- ---- the shelf and the answer: kept if the slot changed, passed if it did not

abbrev pub kept_if : Bool → Result Change Refusal
kept_if true = Ok Kept
kept_if false = Ok Passed

abbrev pub after_put : PutDone → Filed
after_put x = record { shelf = x.shelf; answer = kept_if x.changed }

unfoldable pub filed_by : Shelf → ℕ → Filing → Filed
filed_by shelf slot (refused_filing number section place) =
    record { shelf = shelf; answer = Err (refusal number section place) }
filed_by shelf slot (accepted card) = after_put (put_of shelf slot card)

unfoldable pub filed_of : Shelf → ℕ → Option ℕ → List ℕ → List ℕ → List ℕ → List ℕ → List ℕ → Filed
filed_of shelf slot issue s1 s3 s4 s5 s7 = filed_by shelf slot (filing_of slot issue s1 s3 s4 s5 s7)

-- ---- what an answer says of a filing, and of the shelf before and after it

-- kept: a card is accepted, the slot held less and now holds that card; so it changed, and no other did
pub record SaysKept (before : Shelf) (slot : ℕ) (filing : Filing) (after : Shelf) : Type 0 where
  pub card : Card
  pub accepts : filing ≡ accepted card
  pub held-less : less_slot (slot_at before slot) (holding card) ≡ true
  pub holds : slot_at after slot ≡ holding card
  pub changed : slot_at after slot ≢ slot_at before slot
  pub others : (k : ℕ) → k ≢ slot → slot_at after k ≡ slot_at before k

-- passed: a card is accepted, and the slot holds no less; no slot changed
pub record SaysPassed (before : Shelf) (slot : ℕ) (filing : Filing) (after : Shelf) : Type 0 where
  pub card : Card
  pub accepts : filing ≡ accepted card
  pub holds-no-less : less_slot (slot_at before slot) (holding card) ≡ false
  pub same : after ≡ before

-- refused: the filing is, with this number, section and place; no slot changed
pub record SaysRefused (before : Shelf) (filing : Filing) (after : Shelf) (x : Refusal) : Type 0 where
  pub refuses : filing ≡ refused_filing x.number x.section x.place
  pub same : after ≡ before

abbrev pub Said : Shelf → ℕ → Filing → Shelf → Result Change Refusal → Type 0
Said before slot filing after (Ok Kept) = SaysKept before slot filing after
Said before slot filing after (Ok Passed) = SaysPassed before slot filing after
Said before slot filing after (Err x) = SaysRefused before filing after x
