-- Laws of outcomes, for every section and every list of reasons.
-- Assumes nothing.
use mathlib.Core.Path.{◌≡◌, refl, sym, ap, ◌∙◌}
use mathlib.Core.List.{List, [], ◌∷◌, ◌++◌}
use mathlib.Core.Bool.{Bool, true, false, not, cond}
use mathlib.Core.Logic.{◌⊎◌, inl, inr}
use Prim.Native.Nat.{ℕ, ◌+◌, ◌≤◌}
use native.Mathlib.Omega.{arith}
use lib.Dec.{eqb, ltb}
use lib.ListN.{length}
use borrow.Author.Tests.{le-ltb, ltb-false, ne_eqb}
use Rattle.octets.specs.Octets.{be_at}
use Rattle.layout.specs.Fields.{Value, Field, FieldAt, width, width_of, allowed, raw_at, placed, after, lowest_bad, bad_place}
use Rattle.layout.specs.Outcomes.{Reason, reason, bad_field, Outcome, refused, read, refusal, refused_by, Check, check_of, and_check, if_read, first_of, first_refusal, head_reasons, opening_reasons, total_reasons, fitting_reasons, template_reasons, if_allowed, all_allowed}
use Rattle.layout.specs.declared.Refusal.{Refusal}
use Rattle.std.specs.Prelude.{Result, Ok, Err}
use Rattle.layout.proofs.Ranges.{test-same, same_test}
use Rattle.layout.proofs.Blocks.{after-append}

-- ---- accepted: no reason holds

unfoldable pub NoneHold : List Reason → Type 0
NoneHold [] = Unit {0}
NoneHold (r ∷ rs) = (r.holds ≡ false) × NoneHold rs

-- an answer that was read comes by no reason
pub read_none : (section : ℕ) (rs : List Reason) (o : Outcome) (vs : List Value) → first_of section rs o ≡ read vs → NoneHold rs × (o ≡ read vs)
unfolding first_of NoneHold
read_none section [] o vs e = (tt, e)
read_none section (r ∷ rs) o vs e = by-holding (read_none section rs o vs) r.holds refl e
  where
    by-holding : (first_of section rs o ≡ read vs → NoneHold rs × (o ≡ read vs)) → (t : Bool) → r.holds ≡ t → cond t (refused r.number section r.place) (first_of section rs o) ≡ read vs → ((r.holds ≡ false) × NoneHold rs) × (o ≡ read vs)
    by-holding rest true h e = let z : ◌≡◌ {A = ℕ} 0 1 = cc in absurd (omega arith)
    by-holding rest false h e = let p = rest e in ((h, p.0), p.1)

-- and where no reason holds the answer is the last one
pub none_last : (section : ℕ) (rs : List Reason) (o : Outcome) → NoneHold rs → first_of section rs o ≡ o
unfolding first_of NoneHold
none_last section [] o h = refl
none_last section (r ∷ rs) o h = rw h.0 (none_last section rs o h.1)

-- what comes behind reasons makes no difference, or none of them holds
pub same-or-none : (section : ℕ) (rs : List Reason) (o p : Outcome) → (first_of section rs o ≡ first_of section rs p) ⊎ NoneHold rs
unfolding first_of NoneHold
same-or-none section [] o p = inr tt
same-or-none section (r ∷ rs) o p = by-holding r.holds refl (same-or-none section rs o p)
  where
    by-holding : (t : Bool) → r.holds ≡ t → (first_of section rs o ≡ first_of section rs p) ⊎ NoneHold rs → (cond t (refused r.number section r.place) (first_of section rs o) ≡ cond t (refused r.number section r.place) (first_of section rs p)) ⊎ ((r.holds ≡ false) × NoneHold rs)
    by-holding true h rest = inl refl
    by-holding false h (inl e) = inl e
    by-holding false h (inr n) = inr (h, n)

-- one list of reasons and then another
pub first-append : (section : ℕ) (a b : List Reason) (o : Outcome) → first_of section (a ++ b) o ≡ first_of section a (first_of section b o)
unfolding first_of
first-append section [] b o = refl
first-append section (r ∷ rs) b o = rw (first-append section rs b o)

-- ---- the first reason as a program's check

-- what an answer is that goes on only where a check passes
abbrev pub check_then : Check → Outcome → Outcome
check_then (Err x) o = refused_by x
check_then (Ok u) o = o

-- the same where the answer before found something to go on by, as a reader its template
abbrev pub then_by : {A : Type 0} → Result A Refusal → (A → Outcome) → Outcome
then_by (Err x) go = refused_by x
then_by (Ok a) go = go a

pub first-check : (section : ℕ) (rs : List Reason) (o : Outcome) → first_of section rs o ≡ check_then (first_refusal section rs) o
unfolding first_of first_refusal
first-check section [] o = refl
first-check section (r ∷ rs) o = by-holding (first_refusal section rs) (first-check section rs o) r.holds
  where
    by-holding : {p : Outcome} (c : Check) → p ≡ check_then c o → (t : Bool) → cond t (refused r.number section r.place) p ≡ check_then (cond t (Err (refusal r.number section r.place)) c) o
    by-holding c rest true = refl
    by-holding c rest false = rest

-- one check and then another
pub check_then_and : (c d : Check) (o : Outcome) → check_then (and_check c d) o ≡ check_then c (check_then d o)
unfolding and_check
check_then_and (Err x) d o = refl
check_then_and (Ok u) d o = refl

-- and another that passes
pub and_passed : (c : Check) → and_check c (Ok tt) ≡ c
unfolding and_check
and_passed (Err x) = refl
and_passed (Ok u) = refl

-- where it passes, none holds
pub passed-none : (section : ℕ) (rs : List Reason) → first_refusal section rs ≡ Ok tt → NoneHold rs
passed-none section rs e = (read_none section rs (read []) [] (first-check section rs (read []) ∙ ap (λ (c : Check). check_then c (read [])) e)).0

-- it is the outcome's where nothing else refuses
pub check-first : (section : ℕ) (rs : List Reason) (vs : List Value) → first_refusal section rs ≡ check_of (first_of section rs (read vs))
unfolding first_of first_refusal
check-first section [] vs = refl
check-first section (r ∷ rs) vs = by-holding (first_of section rs (read vs)) (check-first section rs vs) r.holds
  where
    by-holding : {c : Check} (o : Outcome) → c ≡ check_of o → (t : Bool) → cond t (Err (refusal r.number section r.place)) c ≡ check_of (cond t (refused r.number section r.place) o)
    by-holding o rest true = refl
    by-holding o rest false = rest

-- one list and then another is one check and then another
pub check_append : (section : ℕ) (a b : List Reason) → first_refusal section (a ++ b) ≡ and_check (first_refusal section a) (first_refusal section b)
unfolding first_refusal and_check
check_append section [] b = refl
check_append section (r ∷ rs) b = by-holding (first_refusal section rs) (first_refusal section b) r.holds (check_append section rs b)
  where
    by-holding : (c e : Check) (t : Bool) {d : Check} → d ≡ and_check c e → cond t (Err (refusal r.number section r.place)) d ≡ and_check (cond t (Err (refusal r.number section r.place)) c) e
    by-holding c e true rest = refl
    by-holding c e false rest = rest

-- 5 behind the head's
pub opening_by_head : (section least : ℕ) (s : List ℕ) → first_refusal section (opening_reasons section least s) ≡ and_check (first_refusal section (head_reasons section s)) (cond (ltb (length s) least) (Err (refusal 5 section 0)) (Ok tt))
unfolding opening_reasons first_refusal
opening_by_head section least s = check_append section (head_reasons section s) (reason 5 (ltb (length s) least) ∷ [])

-- ---- the fields' checks one after the other

-- a section's fields, each behind the first octet: they are allowed, or 8 at the lowest that is not
pub fields_first : (section end k : ℕ) (fs : List Field) (s : List ℕ) (o : Outcome) → 1 ≤ k → first_of section (bad_field (bad_place (placed end k fs) s) ∷ []) o ≡ check_then (all_allowed section (placed end k fs) s) o
unfolding first_of lowest_bad all_allowed and_check placed
fields_first section end k [] s o h = refl
fields_first section end k (f ∷ fs) s o h =
    let rest = placed end (k + width f) fs in
    by-allowed (bad_place rest s) (all_allowed section rest s) (allowed f (be_at s (end + k) (width f))) (fields_first section end (k + width f) fs s o (omega arith))
  where
    there : not (eqb (end + k) 0) ≡ true
    there = rw (ne_eqb (end + k) 0 (λ e. omega arith))

    by-allowed : (later : ℕ) (c : Check) (t : Bool) → cond (not (eqb later 0)) (refused 8 section later) o ≡ check_then c o → let bad = cond t later (end + k) in cond (not (eqb bad 0)) (refused 8 section bad) o ≡ check_then (and_check (if_allowed section (end + k) t) c) o
    by-allowed later c true rest = rest
    by-allowed later c false rest = rw there refl

-- two runs of fields that meet
pub allowed_append : (section : ℕ) (a b : List FieldAt) (s : List ℕ) → all_allowed section (a ++ b) s ≡ and_check (all_allowed section a s) (all_allowed section b s)
unfolding all_allowed and_check
allowed_append section [] b s = refl
allowed_append section (p ∷ ps) b s = by-allowed (all_allowed section ps s) (all_allowed section b s) (allowed p.field (raw_at p s)) (allowed_append section ps b s)
  where
    by-allowed : (c e : Check) (t : Bool) {d : Check} → d ≡ and_check c e → and_check (if_allowed section p.at t) d ≡ and_check (and_check (if_allowed section p.at t) c) e
    by-allowed c e true rest = rest
    by-allowed c e false rest = refl

-- blocks one after the other
pub allowed_meet : (section end : ℕ) (a b : List Field) (s : List ℕ) → all_allowed section (after end (a ++ b)) s ≡ and_check (all_allowed section (after end a) s) (all_allowed section (after (end + width_of a) b) s)
allowed_meet section end a b s = rw after-append (allowed_append section (after end a) (after (end + width_of a) b) s)

-- behind 7: the fields, the section's own number, the total
fitting_checks : (section own total : ℕ) (fs : List Field) (s : List ℕ) (o : Outcome) → first_of section (fitting_reasons (bad_place (after 0 fs) s) own total s) o
    ≡ check_then (all_allowed section (after 0 fs) s) (cond (eqb own 0) (check_then (first_refusal section (total_reasons total s)) o) (refused own section 0))
unfolding first_of fitting_reasons
fitting_checks section own total fs s o = fields_first section 0 1 fs s _ (omega arith) ∙ ap (check_then (all_allowed section (after 0 fs) s)) (by-own (eqb own 0) (first-check section (total_reasons total s) o))
  where
    by-own : (t : Bool) {p q : Outcome} → p ≡ q → cond (not t) (refused own section 0) p ≡ cond t q (refused own section 0)
    by-own true e = e
    by-own false e = refl

-- the same as a program's check: the readers make these checks one behind the other
pub fitting-checked : (section own total : ℕ) (fs : List Field) (s : List ℕ) → first_refusal section (fitting_reasons (bad_place (after 0 fs) s) own total s)
    ≡ and_check (all_allowed section (after 0 fs) s) (cond (eqb own 0) (first_refusal section (total_reasons total s)) (Err (refusal own section 0)))
unfolding and_check
fitting-checked section own total fs s =
    check-first section (fitting_reasons (bad_place (after 0 fs) s) own total s) []
    ∙ ap check_of (fitting_checks section own total fs s (read []))
    ∙ by-checks (all_allowed section (after 0 fs) s) (eqb own 0) (first_refusal section (total_reasons total s))
  where
    by-checks : (c : Check) (t : Bool) (d : Check) → check_of (check_then c (cond t (check_then d (read [])) (refused own section 0))) ≡ and_check c (cond t d (Err (refusal own section 0)))
    by-checks (Err x) t d = refl
    by-checks (Ok u) true (Err x) = refl
    by-checks (Ok u) true (Ok v) = refl
    by-checks (Ok u) false d = refl

-- a reader's checks once the template is known: 7, the fields, its own number, the total
pub template_checks : (section smallest own total : ℕ) (fs : List Field) (s : List ℕ) (o : Outcome) → first_of section (template_reasons smallest (bad_place (after 0 fs) s) own total s) o
    ≡ cond (ltb (length s) smallest) (refused 7 section 0) (check_then (all_allowed section (after 0 fs) s) (cond (eqb own 0) (check_then (first_refusal section (total_reasons total s)) o) (refused own section 0)))
unfolding first_of template_reasons
template_checks section smallest own total fs s o = ap (cond (ltb (length s) smallest) (refused 7 section 0)) (fitting_checks section own total fs s o)

-- ---- what it means that none of them holds

-- 1 to 4
pub record Headed (section : ℕ) (s : List ℕ) : Type 0 where
  pub long : 5 ≤ length s
  pub small : length s ≤ 65536
  pub says-length : be_at s 1 4 ≡ length s
  pub says-number : be_at s 5 1 ≡ section

-- what a program knows of a section behind two of its checks
pub passed_small : (section least : ℕ) (s : List ℕ) → first_refusal section (opening_reasons section least s) ≡ Ok tt → length s ≤ 65536
unfolding NoneHold opening_reasons
passed_small section least s e = ltb-false _ _ (passed-none section (opening_reasons section least s) e).1.0

pub passed_whole : (section total : ℕ) (s : List ℕ) → first_refusal section (total_reasons total s) ≡ Ok tt → length s ≡ total
unfolding NoneHold total_reasons
passed_whole section total s e =
    let h = passed-none section (total_reasons total s) e in
    omega (arith, ltb-false (length s) total h.0, ltb-false total (length s) h.1.0)

-- 7, 8, the section's own number, and the total
pub record Fits (smallest bad own total : ℕ) (s : List ℕ) : Type 0 where
  pub enough : smallest ≤ length s
  pub in-range : bad ≡ 0
  pub own-kept : own ≡ 0
  pub whole : length s ≡ total

module _ (section : ℕ) (s : List ℕ) (o : Outcome) where
  none-headed : NoneHold (head_reasons section s) → Headed section s
  unfolding NoneHold
  none-headed h =
      record {
        long = ltb-false _ _ h.0;
        small = ltb-false _ _ h.1.0;
        says-length = test-same _ _ h.1.1.0;
        says-number = test-same _ _ h.1.1.1.0;
      }

  pub head_read : (vs : List Value) → first_of section (head_reasons section s) o ≡ read vs → Headed section s × (o ≡ read vs)
  head_read vs e = let h = read_none section (head_reasons section s) o vs e in (none-headed h.0, h.1)

  pub head-last : Headed section s → first_of section (head_reasons section s) o ≡ o
  unfolding NoneHold
  head-last h =
      none_last section (head_reasons section s) o
      (le-ltb _ _ h.long, (le-ltb _ _ h.small, (same_test _ _ h.says-length, (same_test _ _ h.says-number, tt))))

  pub opening-read : (least : ℕ) (vs : List Value) → first_of section (opening_reasons section least s) o ≡ read vs → Headed section s × (least ≤ length s) × (o ≡ read vs)
  unfolding NoneHold opening_reasons
  opening-read least vs e =
      let h = read_none section (opening_reasons section least s) o vs e in
      (none-headed (h.0.0, (h.0.1.0, (h.0.1.1.0, (h.0.1.1.1.0, tt)))), ltb-false _ _ h.0.1.1.1.1.0, h.1)

  pub opening-last : (least : ℕ) → Headed section s → least ≤ length s → first_of section (opening_reasons section least s) o ≡ o
  unfolding NoneHold opening_reasons
  opening-last least h l =
      let five = reason 5 (ltb (length s) least) ∷ [] in
      first-append section (head_reasons section s) five o ∙ ap (first_of section (head_reasons section s)) (none_last section five o (le-ltb _ _ l, tt)) ∙ head-last h

  pub template-read : (smallest bad own total : ℕ) (vs : List Value) → first_of section (template_reasons smallest bad own total s) o ≡ read vs → Fits smallest bad own total s × (o ≡ read vs)
  unfolding NoneHold template_reasons fitting_reasons total_reasons
  template-read smallest bad own total vs e =
      let h = read_none section (template_reasons smallest bad own total s) o vs e in (
        record {
          enough = ltb-false _ _ h.0.0;
          in-range = test-same _ _ h.0.1.0;
          own-kept = test-same _ _ h.0.1.1.0;
          whole = omega (arith, ltb-false (length s) total h.0.1.1.1.0, ltb-false total (length s) h.0.1.1.1.1.0);
        },
        h.1,
      )

  pub template-last : (smallest bad own total : ℕ) → Fits smallest bad own total s → first_of section (template_reasons smallest bad own total s) o ≡ o
  unfolding NoneHold template_reasons fitting_reasons total_reasons
  template-last smallest bad own total f =
      none_last section (template_reasons smallest bad own total s) o
      (le-ltb _ _ f.enough, (same_test _ _ f.in-range, (same_test _ _ f.own-kept, (le-ltb (length s) total (omega (arith, f.whole)), (le-ltb total (length s) (omega (arith, f.whole)), tt)))))

-- ---- a caller that takes an answer apart

-- what the answer that was found says is the outcome
pub answer-is : {A B : Type 0} (tell : A → B) {a b : A} {o : B} → tell a ≡ o → a ≡ b → o ≡ tell b
answer-is tell p e = sym p ∙ ap tell e

-- ---- of a choice

-- what holds of both holds of the one that is chosen
pub either : {A : Type 0} (P : A → Type 0) (t : Bool) {x y : A} → P x → P y → P (cond t x y)
either P true p q = p
either P false p q = q

-- ---- what a section has

-- what holds where it is refused, and where it is read, holds
pub of-both : {A : Type 0} (P : A → Type 0) (o : Outcome) (x other : A) → P other → ((vs : List Value) → o ≡ read vs → P x) → P (if_read o x other)
unfolding if_read
of-both P (refused number section place) x other p q = p
of-both P (read vs) x other p q = q vs refl
