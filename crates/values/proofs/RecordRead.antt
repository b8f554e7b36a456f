-- What `read_into` answers: a refusal is one that document 01 lists, and leaves the row; none says that the record stands there.
-- Assumes nothing.
use Prim.Native.Nat.{ℕ, ◌≤◌, ◌<◌}
use native.Mathlib.Omega.{arith}
use mathlib.Core.Path.{◌≡◌, refl, ap}
use mathlib.Core.Bool.{Bool, true, false}
use mathlib.Core.List.{List, [], ◌∷◌}
use lib.Dec.{eqb, leb}
use lib.IntN.{ℤ}
use lib.ListN.{length}
use borrow.Author.Tests.{eq-eqb, le-leb, lt-leb, leb-true}
use Rattle.lent.specs.Lent.{done, with_count, if_room, Untouched}
use Rattle.lent.proofs.Answers.{room-leaves}
use Rattle.layout.specs.Fields.{Value}
use Rattle.layout.specs.Outcomes.{Outcome, refused, read, refusal, Check, check_of, told}
use Rattle.std.specs.Prelude.{Result, Ok, Err}
use Rattle.std.specs.Result.{result_and}
use Rattle.layout.specs.declared.Refusal.{Refusal}
use Rattle.layout.specs.Refusals.{Row, row, one_of, numbers_of, last_place, Listed}
use Rattle.layout.proofs.Outcomes.{either}
use Rattle.layout.proofs.Refusals.{Refuses, PassedOrListed, passed, listed, refuses-wider, placeless, head-refuses, Proper, positive, proper, refusal-is-listed}
use Rattle.identification.specs.Section1.{outcome₁}
use Rattle.identification.specs.Refused.{table₁}
use Rattle.identification.proofs.RefusalNumbers.{refuses₁}
use Rattle.grid.specs.Section3.{outcome₃}
use Rattle.grid.specs.Refused.{table₃}
use Rattle.grid.proofs.RefusalNumbers.{refuses₃}
use Rattle.product.specs.Section4.{outcome₄}
use Rattle.product.specs.Refused.{table₄}
use Rattle.product.proofs.RefusalNumbers.{refuses₄}
use Rattle.packing.specs.Section5.{outcome₅}
use Rattle.packing.specs.Section7.{values₇, outcome₇alone}
use Rattle.packing.specs.Refused.{table₅}
use Rattle.packing.proofs.RefusalNumbers.{refuses₅}
use Rattle.values.specs.Refused.{read_table}
use Rattle.values.specs.Records.{numbers_in, section_outcome, into_row, PutsRecord}
use Rattle.values.specs.Accepted.{AcceptedWithRoom}
use Rattle.values.proofs.AcceptedExactlyWhen.{each-section, accepted-follows}

-- ---- a section's own refusals

seven-refuses : (s : List ℕ) → Refuses (read_table 7) (outcome₇alone s)
unfolding outcome₇alone
seven-refuses s = head-refuses (read_table 7) 7 s (read (values₇ s)) refl (λ small. tt)

-- each section's refusals are its own
own : (P : ℕ → Outcome → Type 0) → ((n : ℕ) (o : Outcome) → Refuses (read_table n) o → one_of (numbers_of (read_table n) 0) 18 ≡ true → P n o) → ((n : ℕ) → Listed (read_table n) (refusal 4 n 0) → P n (refused 4 n 0))
    → (section : ℕ) (s : List ℕ) → P section (section_outcome section s)
own P p q section s =
    each-section P s (p 1 _ (refuses-wider (read_table 1) table₁ (outcome₁ s) refl (refuses₁ s)) refl)
    (p 3 _ (refuses-wider (read_table 3) table₃ (outcome₃ s) refl (refuses₃ s)) refl) (p 4 _ (refuses-wider (read_table 4) table₄ (outcome₄ s) refl (refuses₄ s)) refl)
    (p 5 _ (refuses-wider (read_table 5) table₅ (outcome₅ s) refl (refuses₅ s)) refl) (p 7 _ (seven-refuses s) refl)
    (λ n e. q n (placeless (read_table n) 4 n (rw (e, eq-eqb n n refl)) refl)) section

section-refuses : (section : ℕ) (s : List ℕ) → Refuses (read_table section) (section_outcome section s)
section-refuses = own (λ n o. Refuses (read_table n) o) (λ n o r e. r) (λ n l. l)

-- what holds of the table of each section, and of one that is not read, holds of the one that is asked for
pub of-each-table : (P : List Row → Type 0) (section : ℕ) → P (read_table 1) → P (read_table 3) → P (read_table 4) → P (read_table 5) → P (read_table 7) → P (row section (4 ∷ []) ∷ []) → P (read_table section)
of-each-table P section one three four five seven other =
    either P (eqb section 1) one (either P (eqb section 3) three (either P (eqb section 4) four (either P (eqb section 5) five (either P (eqb section 7) seven other))))

-- none of its numbers is 0
pub positive-own : (section : ℕ) → positive (read_table section) ≡ true
positive-own section = of-each-table (λ table. positive table ≡ true) section refl refl refl refl refl refl

pub all-proper : (section : ℕ) (s : List ℕ) → Proper (section_outcome section s)
all-proper section s = proper (read_table section) (section_outcome section s) (positive-own section) (section-refuses section s)

-- ---- with 18

-- none, or a refusal that the table lists
pub read-into-refuses : (section : ℕ) (s : List ℕ) (row : List ℤ) → PassedOrListed (read_table section) (into_row (section_outcome section s) row).answer
unfolding into_row
read-into-refuses section s row =
    own (λ n o. PassedOrListed (read_table n) (into_row o row).answer) by (λ n l. listed _ l) section s
  where
    by-room : (n : ℕ) → one_of (numbers_of (read_table n) 0) 18 ≡ true → (t : Bool) (row' : List ℤ) → PassedOrListed (read_table n) (if_room (Ok tt) (Err (refusal 18 0 0)) t row' row).answer
    by-room n e true row' = passed
    by-room n e false row' = listed _ (placeless (read_table n) 18 0 e refl)

    by : (n : ℕ) (o : Outcome) → Refuses (read_table n) o → one_of (numbers_of (read_table n) 0) 18 ≡ true → PassedOrListed (read_table n) (into_row o row).answer
    by n (refused number section' place) r e = listed _ r
    by n (read vs) r e = by-room n e (leb 64 (length row)) _

-- a refusal's place is at most the last
pub place-within : (section : ℕ) (s : List ℕ) (row : List ℤ) (x : Refusal) → (into_row (section_outcome section s) row).answer ≡ Err x → x.place ≤ last_place
place-within section s row x e = (refusal-is-listed (read_table section) _ (read-into-refuses section s row) x e).placed.within

-- a refusal leaves the row
pub row_stays : (o : Outcome) (row : List ℤ) → Untouched (Ok tt) row (into_row o row)
unfolding into_row
row_stays (refused number section place) row h = refl
row_stays (read vs) row h = room-leaves (Ok tt) (Err (refusal 18 0 0)) (leb 64 (length row)) _ row h

abbrev fine : Check
fine = Ok tt

-- nor is it 18's
none-by : (o : Outcome) (row : List ℤ) → (into_row o row).answer ≡ fine → ((vs : List Value) × (o ≡ read vs)) × (64 ≤ length row)
unfolding into_row
none-by (refused number section place) row e = let z : ◌≡◌ {A = ℕ} 0 1 = cc in absurd (omega arith)
none-by (read vs) places e = by (leb 64 (length places)) refl (with_count (numbers_in vs) places) e
  where
    by : (t : Bool) → leb 64 (length places) ≡ t → (row' : List ℤ) → (if_room {B = List ℤ} fine (Err (refusal 18 0 0)) t row' places).answer ≡ fine → ((us : List Value) × (read vs ≡ read us)) × (64 ≤ length places)
    by true h row' e = ((vs, refl), leb-true _ _ h)
    by false h row' e = let z : ◌≡◌ {A = ℕ} 0 1 = cc in absurd (omega arith)

pub none-refused : (section : ℕ) (s : List ℕ) (row : List ℤ) → (into_row (section_outcome section s) row).answer ≡ Ok tt → AcceptedWithRoom section s row
none-refused section s row e =
    let a = none-by (section_outcome section s) row e in
    ((accepted-follows section s a.0.0 a.0.1).0, a.1)

-- the record of an accepted section stands in the row
pub record-put : (o : Outcome) (row : List ℤ) (vs : List Value) → o ≡ read vs → 64 ≤ length row → into_row o row ≡ done (Ok tt) (with_count (numbers_in vs) row)
unfolding into_row
record-put o row vs e h = rw (e, le-leb 64 _ h)

-- ---- for the code: a section's check is that of what its reader answers

pub read_check : {A : Type 0} (values : A → List Value) (r : Result A Refusal) (o : Outcome) → told values r ≡ o → result_and r (Ok tt) ≡ check_of o
read_check values (Err x) o e = ap check_of e
read_check values (Ok a) o e = ap check_of e

-- ---- for the code: what is answered where the section's check refuses, and where it passes

pub check_refused : (o : Outcome) (row : List ℤ) (x : Refusal) → Err x ≡ check_of o → done (Err x) row ≡ into_row o row
unfolding into_row
check_refused (refused number section place) row x e = ap (λ (c : Check). done c row) e
check_refused (read vs) row x e = let z : ◌≡◌ {A = ℕ} 0 1 = cc in absurd (omega arith)

pub no_places : (o : Outcome) (row : List ℤ) → Ok tt ≡ check_of o → length row < 64 → done (Err (refusal 18 0 0)) row ≡ into_row o row
unfolding into_row
no_places (refused number section place) row e h = let z : ◌≡◌ {A = ℕ} 0 1 = cc in absurd (omega arith)
no_places (read vs) row e h = rw (lt-leb _ _ h) refl

pub put_there : (o : Outcome) (row row' : List ℤ) → Ok tt ≡ check_of o → 64 ≤ length row → PutsRecord o row row' → done (Ok tt) row' ≡ into_row o row
unfolding into_row
put_there (refused number section place) row row' e h p = let z : ◌≡◌ {A = ℕ} 0 1 = cc in absurd (omega arith)
put_there (read vs) row row' e h p = rw (le-leb 64 _ h) (ap (done (Ok tt)) (p vs refl))
