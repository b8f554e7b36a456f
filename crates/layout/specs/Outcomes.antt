-- What a reader answers: a refusal, by the first reason that holds, or what was read.
-- Assumes nothing.
use Rattle.std.specs.Prelude.{ℕ, ◌+◌, List, [], ◌∷◌, ◌++◌, Bool, not, cond, length, ltb, eqb, Result, Ok, Err}
use Rattle.octets.specs.Octets.{be_at}
use Rattle.layout.specs.Fields.{Value, FieldAt, allowed, raw_at}
use Rattle.layout.specs.declared.Refusal.{Refusal}

-- a refusal's number, section and place, or the values of a record
pub data Outcome : Type 0 where
  refused : ℕ → ℕ → ℕ → Outcome
  read : List Value → Outcome

-- a program's refusal, by number, section and place
abbrev pub refusal : ℕ → ℕ → ℕ → Refusal
refusal number section place = record { number = number; section = section; place = place }

-- what stands for none
abbrev pub no_refusal : Refusal
no_refusal = refusal 0 0 0

-- what a program's refusal says
abbrev pub refused_by : Refusal → Outcome
refused_by x = refused x.number x.section x.place

-- what a program's answer says: a refusal, or the values of what was read
abbrev pub told : {A : Type 0} → (A → List Value) → Result A Refusal → Outcome
told values (Err x) = refused_by x
told values (Ok a) = read (values a)

-- a program's check: passed, or refused
abbrev pub Check : Type 0
Check = Result (Unit {0}) Refusal

-- the check of an outcome: passed where it is read
abbrev pub check_of : Outcome → Check
check_of (refused number section place) = Err (refusal number section place)
check_of (read vs) = Ok tt

-- one check and then another: a refusal is handed on
unfoldable pub and_check : Check → Check → Check
and_check (Err x) c = Err x
and_check (Ok u) c = c

-- one answer and then another: a refusal is handed on
unfoldable pub and_then : Outcome → Outcome → Outcome
and_then (refused number section place) o = refused number section place
and_then (read vs) o = o

-- what a section has if it is read; a refused one has another thing in its place
unfoldable pub if_read : {A : Type 0} → Outcome → A → A → A
if_read (refused number section place) x other = other
if_read (read vs) x other = x

-- a reason to refuse a section: whether it holds, its number, its place
pub record Reason : Type 0 where
  pub holds : Bool
  pub number : ℕ
  pub place : ℕ

-- a reason of no place
abbrev pub reason : ℕ → Bool → Reason
reason number holds = record { holds = holds; number = number; place = 0 }

-- 8: a field out of its range stands at this place; 0 says that there is none
abbrev pub bad_field : ℕ → Reason
bad_field place = record { holds = not (eqb place 0); number = 8; place = place }

-- the first reason that holds decides, and if none does the answer is the last one
unfoldable pub first_of : ℕ → List Reason → Outcome → Outcome
first_of section [] o = o
first_of section (r ∷ rs) o = cond r.holds (refused r.number section r.place) (first_of section rs o)

-- the same as a program's check, which is passed if none holds
unfoldable pub first_refusal : ℕ → List Reason → Check
first_refusal section [] = Ok tt
first_refusal section (r ∷ rs) = cond r.holds (Err (refusal r.number section r.place)) (first_refusal section rs)

-- a field's number is allowed, or its first octet is the place of 8
abbrev pub if_allowed : ℕ → ℕ → Bool → Check
if_allowed section at fine = cond fine (Ok tt) (Err (refusal 8 section at))

-- each field's is, or the lowest that is not has the place
unfoldable pub all_allowed : ℕ → List FieldAt → List ℕ → Check
all_allowed section [] s = Ok tt
all_allowed section (p ∷ ps) s = and_check (if_allowed section p.at (allowed p.field (raw_at p s))) (all_allowed section ps s)

-- ---- the reasons that the sections share

-- 1 to 4, which every section has: under 5 octets, above 65,536, octets 1-4 differ from the lent length, wrong number
abbrev pub head_reasons : ℕ → List ℕ → List Reason
head_reasons section s =
    reason 1 (ltb (length s) 5)
    ∷ reason 2 (ltb 65536 (length s))
    ∷ reason 3 (not (eqb (be_at s 1 4) (length s)))
    ∷ reason 4 (not (eqb (be_at s 5 1) section))
    ∷ []

-- and then 5: under the octets that are needed to know the template
unfoldable pub opening_reasons : ℕ → ℕ → List ℕ → List Reason
opening_reasons section least s = head_reasons section s ++ (reason 5 (ltb (length s) least) ∷ [])

-- 11: shorter than its total; the place is the first octet that is not there
abbrev pub too_short : ℕ → List ℕ → Reason
too_short total s = record { holds = ltb (length s) total; number = 11; place = length s + 1 }

-- 21: longer than its total; the place is the first octet beyond it
abbrev pub too_long : ℕ → List ℕ → Reason
too_long total s = record { holds = ltb total (length s); number = 21; place = total + 1 }

-- the section has not its total; 21 is tested here, where 11 is, and so before 13
unfoldable pub total_reasons : ℕ → List ℕ → List Reason
total_reasons total s = too_short total s ∷ too_long total s ∷ []

-- 8, at the place of the lowest bad field; a number that the section has of its own (9, 10), where 0 says that it is not met; then the total
unfoldable pub fitting_reasons : ℕ → ℕ → ℕ → List ℕ → List Reason
fitting_reasons bad own total s = bad_field bad ∷ reason own (not (eqb own 0)) ∷ total_reasons total s

-- once the template is known: 7, under its smallest total, and then these
unfoldable pub template_reasons : ℕ → ℕ → ℕ → ℕ → List ℕ → List Reason
template_reasons smallest bad own total s = reason 7 (ltb (length s) smallest) ∷ fitting_reasons bad own total s
