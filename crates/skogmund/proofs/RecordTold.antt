-- C is told a record exactly where the section follows and there are 64 places: the count and the numbers of the values that the fields of
-- its template say, and then the places as they were.
-- Assumes nothing.
use Prim.Native.Nat.{ℕ, ◌≤◌}
use mathlib.Core.Path.{◌≡◌, refl, ap}
use mathlib.Core.Bool.{true}
use mathlib.Core.Logic.{◌↔◌}
use mathlib.Core.List.{List}
use lib.IntN.{ℤ}
use lib.ListN.{length}
use Rattle.std.specs.Prelude.{Ok}
use Rattle.layout.specs.Outcomes.{Check}
use Rattle.layout.specs.Refusals.{Row}
use Rattle.layout.proofs.Refusals.{PassedOrListed, passed, listed, positive}
use Rattle.lent.specs.Lent.{Done, done, with_count}
use Rattle.values.specs.Records.{numbers_in, section_outcome}
use Rattle.values.specs.Accepted.{FollowsNumbered, values_numbered, AcceptedWithRoom}
use Rattle.values.proofs.AcceptedExactlyWhen.{follows-accepted}
use Rattle.values.proofs.RecordRead.{none-refused, record-put, read-into-refuses, positive-own}
use Rattle.values.specs.Refused.{read_table}
use Rattle.skogmund.specs.Entries.{in_one_number, coded_check, record_told}
use Rattle.skogmund.proofs.Answered.{listed-code}

-- 0 is no refusal's
passed-if-0 : (table : List Row) (c : Check) → positive table ≡ true → PassedOrListed table c → coded_check c ≡ 0 → c ≡ Ok tt
passed-if-0 table _ p passed e = refl
passed-if-0 table _ p (listed x l) e = absurd (listed-code table x p l e)

-- where it follows, 0 is answered and its record stands in the row
pub record-told : (section : ℕ) (s : List ℕ) (row : List ℤ) (f : FollowsNumbered section s) → 64 ≤ length row → record_told section s row ≡ done 0 (with_count (numbers_in (values_numbered section s f)) row)
unfolding record_told
record-told section s row f h =
    ap (λ (x : Done Check (List ℤ)). in_one_number x) (record-put (section_outcome section s) row (values_numbered section s f) (follows-accepted section s f) h)

pub told-exactly-when : (section : ℕ) (s : List ℕ) (row : List ℤ) → ((record_told section s row).answer ≡ 0) ↔ AcceptedWithRoom section s row
unfolding record_told
told-exactly-when section s row = (
  (λ e. none-refused section s row (passed-if-0 (read_table section) _ (positive-own section) (read-into-refuses section s row) e)),
  (λ t. ap (λ (x : Done ℕ (List ℤ)). x.answer) (record-told section s row t.0 t.1)),
)

-- so where 0 is answered there is a template that it follows, and the row is that template's record
pub told-record : (section : ℕ) (s : List ℕ) (row : List ℤ) → (record_told section s row).answer ≡ 0 → (f : FollowsNumbered section s) × ((record_told section s row).lent ≡ with_count (numbers_in (values_numbered section s f)) row)
told-record section s row e =
    let t = (told-exactly-when section s row).0 e in
    (t.0, ap (λ (x : Done ℕ (List ℤ)). x.lent) (record-told section s row t.0 t.1))
