-- Filing a queue: 2, then 19 over the whole file, and then nothing is filed; then record by record 20, then filing, and a refused record
-- doesn't stop the next.
-- Assumes nothing.
use Rattle.std.specs.Prelude.{ℕ, ◌+◌, List, [], ◌∷◌, cond, ltb, eqb, length, Option, Some, None, Result, Ok, Err}
use Rattle.layout.specs.Outcomes.{refusal}
use Rattle.cutting.specs.Cuts.{Step, no_item, item, cut_of}
use Rattle.cutting.specs.Sections.{stretch}
use Rattle.shelf.specs.declared.Shelf.{Shelf}
use Rattle.filing.specs.Filing.{Filing, refused_filing, filing_of, filed_by}
use Rattle.layout.specs.declared.Refusal.{Refusal}
use Rattle.filing.specs.declared.Change.{Change}
use Rattle.filing.specs.declared.Change.TheVariants.{Kept, Passed}
use Rattle.filing.specs.declared.Filed.{Filed}
use Rattle.queue.specs.Records.{record_of}
use Rattle.queue.specs.Bodies.{body_of}
use Rattle.queue.specs.declared.Head.{Head}
use Rattle.queue.specs.declared.Ends.{Ends}
use Rattle.queue.specs.declared.Counts.{Counts}
use Rattle.queue.specs.declared.Progress.{Progress}
use Rattle.queue.specs.declared.QueueFiled.{QueueFiled}

-- ---- one record

-- what a record says: its slot, its issue, and the octets of its body
pub record Sent : Type 0 where
  pub slot : ℕ
  pub issue : Option ℕ
  pub body : List ℕ

abbrev pub record_in : List ℕ → Head → Sent
record_in s h = record { slot = h.slot; issue = h.issue; body = stretch s h.start h.end }

-- the five sections of a body are filed, or the body is not five sections: 20
unfoldable pub body_filing : ℕ → Option ℕ → List ℕ → Option Ends → Filing
body_filing slot issue s None = refused_filing 20 0 0
body_filing slot issue s (Some e) =
    filing_of
    slot
    issue
    (stretch s 0 e.one)
    (stretch s e.one e.three)
    (stretch s e.three e.four)
    (stretch s e.four e.five)
    (stretch s e.five (length s))

unfoldable pub record_filing : Sent → Filing
record_filing r = body_filing r.slot r.issue r.body (body_of r.body)

unfoldable pub record_filed : Shelf → Sent → Filed
record_filed shelf r = filed_by shelf r.slot (record_filing r)

-- ---- the records of a queue

-- what the record at the start of these octets says, and how many octets it takes, or that none stands there
abbrev pub record_item : List ℕ → Option Head → Step Sent
record_item s None = no_item
record_item s (Some h) = item (record_in s h) h.end

unfoldable pub record_step : List ℕ → Step Sent
record_step s = record_item s (record_of s)

-- ---- filing them

abbrev pub from_start : Shelf → Progress
from_start shelf = record { shelf = shelf; counts = record { kept = 0; passed = 0; refused = 0 } }

-- a record counts once, as it is answered
abbrev pub counted : Counts → Result Change Refusal → Counts
counted n (Ok Kept) = record { kept = n.kept + 1; passed = n.passed; refused = n.refused }
counted n (Ok Passed) = record { kept = n.kept; passed = n.passed + 1; refused = n.refused }
counted n (Err x) = record { kept = n.kept; passed = n.passed; refused = n.refused + 1 }

-- the three together
abbrev pub three_together : Counts → ℕ
three_together n = n.kept + n.passed + n.refused

abbrev pub one_more : Counts → Filed → Progress
one_more n x = record { shelf = x.shelf; counts = counted n x.answer }

-- one record after the other
unfoldable pub records_filed : Progress → List Sent → Progress
records_filed p [] = p
records_filed p (r ∷ rs) = records_filed (one_more p.counts (record_filed p.shelf r)) rs

-- ---- the whole queue

-- the number with which it is refused, or 0
unfoldable pub queue_refusal : List ℕ → ℕ
queue_refusal q = cond (ltb 65536 (length q)) 2 (cond (cut_of record_step q).whole 0 19)

-- it is refused with that number, of no section and no place
unfoldable pub checked : List ℕ → Result (Unit {0}) Refusal
checked q = cond (eqb (queue_refusal q) 0) (Ok tt) (Err (refusal (queue_refusal q) 0 0))

abbrev pub refused_queue : Shelf → ℕ → QueueFiled
refused_queue shelf number = record { shelf = shelf; answer = Err (refusal number 0 0) }

abbrev pub accepted_queue : Progress → QueueFiled
accepted_queue p = record { shelf = p.shelf; answer = Ok p.counts }

unfoldable pub queue_filed : Shelf → List ℕ → QueueFiled
queue_filed shelf q =
    cond (eqb (queue_refusal q) 0)
    (accepted_queue (records_filed (from_start shelf) (cut_of record_step q).items))
    (refused_queue shelf (queue_refusal q))
