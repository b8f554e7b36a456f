-- A refusal by the first reason that holds is one that a table lists, for every table and every list of reasons.
-- Assumes nothing.
use Prim.Native.Nat.{ℕ, ◌+◌, ◌<◌, ◌≤◌}
use native.Mathlib.Omega.{arith}
use mathlib.Core.Path.{◌≡◌, refl, sym, subst}
use mathlib.Core.List.{List, [], ◌∷◌, ◌++◌}
use mathlib.Core.Bool.{Bool, true, false, not, cond, true≢false, ◌&&◌}
use lib.Dec.{leb, ltb, eqb}
use lib.ListN.{length}
use borrow.Author.Tests.{eqb-true, eq-eqb, ne_eqb, leb-true, ltb-true, ltb-false}
use Rattle.layout.specs.Fields.{Field, held, said, shown, width, allowed, raw, FieldAt, placed, after, bad_place, lowest_bad, raw_at}
use Rattle.layout.specs.Outcomes.{Outcome, refused, read, refusal, refused_by, Reason, reason, first_of, first_refusal, Check, if_allowed, and_then, head_reasons, opening_reasons, total_reasons, fitting_reasons, template_reasons}
use Rattle.std.specs.Prelude.{Ok, Err}
use Rattle.layout.specs.Refusals.{Row, row, one_of, numbers_of, has_place, last_place, Listed, head_numbers, opening_numbers, fitting_numbers, template_numbers}
use Rattle.layout.specs.declared.Refusal.{Refusal}
use Rattle.layout.proofs.Outcomes.{NoneHold, either}
use Rattle.layout.proofs.Ranges.{both_hold}

-- a test holds or it does not
pub by-test : (P : Bool → Type 0) (t : Bool) → (t ≡ true → P true) → (t ≡ false → P false) → P t
by-test P true p q = p refl
by-test P false p q = q refl

-- ---- one table within another

abbrev pub all_of : List ℕ → List ℕ → Bool
all_of large [] = true
all_of large (n ∷ ns) = one_of large n && all_of large ns

-- each number of the small table is in the large one, for its section
abbrev pub within : List Row → List Row → Bool
within large [] = true
within large (r ∷ rs) = all_of (numbers_of large r.section) r.numbers && within large rs

pub all-of : (large ns : List ℕ) (n : ℕ) → all_of large ns ≡ true → one_of ns n ≡ true → one_of large n ≡ true
all-of large [] n a e = absurd (true≢false (sym e))
all-of large (m ∷ ns) n a e =
    let parts = both_hold (one_of large m) (all_of large ns) a in
    by-test (λ (t : Bool). cond t true (one_of ns n) ≡ true → one_of large n ≡ true) (eqb n m)
    (λ h e. rw (eqb-true n m h) parts.0) (λ h e. all-of large ns n parts.1 e) e

one-within : (large small : List Row) (section n : ℕ) → within large small ≡ true → one_of (numbers_of small section) n ≡ true → one_of (numbers_of large section) n ≡ true
one-within large [] section n w e = absurd (true≢false (sym e))
one-within large (r ∷ rs) section n w e =
    let parts = both_hold (all_of (numbers_of large r.section) r.numbers) (within large rs) w in
    by-test (λ (t : Bool). one_of (cond t r.numbers (numbers_of rs section)) n ≡ true → one_of (numbers_of large section) n ≡ true) (eqb section r.section)
    (λ h e. rw (eqb-true section r.section h) (all-of (numbers_of large r.section) r.numbers n parts.0 e))
    (λ h e. one-within large rs section n parts.1 e) e

pub wider : (large small : List Row) (x : Refusal) → within large small ≡ true → Listed small x → Listed large x
wider large small x w p = record { listed = one-within large small x.section x.number w p.listed; placed = p.placed }

-- ---- outcomes whose refusal, if they are one, is listed

abbrev pub Refuses : List Row → Outcome → Type 0
Refuses table (refused number section place) = Listed table (refusal number section place)
Refuses table (read vs) = Unit {0}

-- the refusal that an outcome is
pub refusal-listed : (table : List Row) (o : Outcome) (x : Refusal) → Refuses table o → refused_by x ≡ o → Listed table x
refusal-listed table o x p e = subst (λ (o : Outcome). Refuses table o) (sym e) p

pub refuses-wider : (large small : List Row) (o : Outcome) → within large small ≡ true → Refuses small o → Refuses large o
refuses-wider large small (refused number section place) w p = wider large small (refusal number section place) w p
refuses-wider large small (read vs) w p = tt

-- one answer and then another
pub then-refuses : (table : List Row) (o next : Outcome) → Refuses table o → Refuses table next → Refuses table (and_then o next)
unfolding and_then
then-refuses table (refused number section place) next p q = p
then-refuses table (read vs) next p q = q

-- a check is passed, or its refusal is one of the table
pub data PassedOrListed (table : List Row) : Check → Type 0 where
  passed : PassedOrListed table (Ok tt)
  listed : (x : Refusal) → Listed table x → PassedOrListed table (Err x)

-- so where it is a refusal, that is listed
pub refusal-is-listed : (table : List Row) (c : Check) → PassedOrListed table c → (x : Refusal) → c ≡ Err x → Listed table x
refusal-is-listed table _ passed x e = let z : ◌≡◌ {A = ℕ} 0 1 = cc in absurd (omega arith)
refusal-is-listed table _ (listed y l) x e = let same : y ≡ x = cc in subst (Listed table) same l

-- ---- by reasons

-- a number of the table that has no place
pub placeless : (table : List Row) (number section : ℕ) → one_of (numbers_of table section) number ≡ true → has_place number ≡ false → Listed table (refusal number section 0)
placeless table number section l p = record { listed = l; placed = record { given = sym p; within = omega arith } }

-- each reason is listed where it is the first that holds
unfoldable pub AllListed : List Row → ℕ → List Reason → Type 0
AllListed table section [] = Unit {0}
AllListed table section (r ∷ rs) = (r.holds ≡ true → Listed table (refusal r.number section r.place)) × (r.holds ≡ false → AllListed table section rs)

-- a refusal of `first_of` is one of its reasons, or comes where none holds
pub first-refuses : (table : List Row) (section : ℕ) (rs : List Reason) (o : Outcome) → AllListed table section rs → (NoneHold rs → Refuses table o) → Refuses table (first_of section rs o)
unfolding first_of AllListed NoneHold
first-refuses table section [] o p q = q tt
first-refuses table section (r ∷ rs) o p q =
    by-test (λ (t : Bool). Refuses table (cond t (refused r.number section r.place) (first_of section rs o))) r.holds
    p.0 (λ h. first-refuses table section rs o (p.1 h) (λ none. q (h, none)))

-- and a check by the first is passed, or its refusal is listed
pub first-listed : (table : List Row) (section : ℕ) (rs : List Reason) → AllListed table section rs → PassedOrListed table (first_refusal section rs)
unfolding first_refusal AllListed
first-listed table section [] p = passed
first-listed table section (r ∷ rs) p =
    by-test (λ (t : Bool). PassedOrListed table (cond t (Err (refusal r.number section r.place)) (first_refusal section rs))) r.holds
    (λ h. listed _ (p.0 h)) (λ h. first-listed table section rs (p.1 h))

-- a reason of no place, and others
reason-listed : (table : List Row) (section number : ℕ) (holds : Bool) (rs : List Reason) → one_of (numbers_of table section) number ≡ true → has_place number ≡ false → AllListed table section rs → AllListed table section (reason number holds ∷ rs)
unfolding AllListed
reason-listed table section number holds rs l p rest = ((λ h. placeless table number section l p), (λ h. rest))

-- it alone
pub reason-refuses : (table : List Row) (section number : ℕ) (holds : Bool) (o : Outcome) → one_of (numbers_of table section) number ≡ true → has_place number ≡ false → Refuses table o → Refuses table (first_of section (reason number holds ∷ []) o)
unfolding AllListed
reason-refuses table section number holds o l p q =
    first-refuses table section (reason number holds ∷ []) o (reason-listed table section number holds [] l p tt) (λ none. q)

-- ---- by the reasons that the sections share

-- a number that the table lists for a section
abbrev Has : List Row → ℕ → ℕ → Type 0
Has table section n = one_of (numbers_of table section) n ≡ true

head-listed : (table : List Row) (section : ℕ) (s : List ℕ) (rs : List Reason) → all_of (numbers_of table section) head_numbers ≡ true → AllListed table section rs → AllListed table section (head_reasons section s ++ rs)
head-listed table section s rs a rest =
    let has : (n : ℕ) → one_of head_numbers n ≡ true → Has table section n = λ n e. all-of (numbers_of table section) head_numbers n a e in
    reason-listed table section 1 _ _ (has 1 refl) refl
    (reason-listed table section 2 _ _ (has 2 refl) refl
    (reason-listed table section 3 _ _ (has 3 refl) refl
    (reason-listed table section 4 _ _ (has 4 refl) refl rest)))

opening-listed : (table : List Row) (section least : ℕ) (s : List ℕ) → all_of (numbers_of table section) opening_numbers ≡ true → AllListed table section (opening_reasons section least s)
unfolding opening_reasons AllListed
opening-listed table section least s a =
    let parts = both_hold _ _ a in
    head-listed table section s (reason 5 (ltb (length s) least) ∷ []) parts.1 (reason-listed table section 5 _ [] parts.0 refl tt)

-- a place that is not 0
some : (n : ℕ) → not (eqb (n + 1) 0) ≡ true
some n = rw (ne_eqb (n + 1) 0 (λ e. omega arith))

-- the places of 8 and 21 are within the section, and that of 11 is one behind it; 11 has to be listed where the section can be too short
fitting-listed : (table : List Row) (section bad own total : ℕ) (s : List ℕ) → all_of (numbers_of table section) fitting_numbers ≡ true → (length s < total → Has table section 11) → one_of (0 ∷ numbers_of table section) own ≡ true → has_place own ≡ false → bad ≤ length s → length s ≤ 65536 → AllListed table section (fitting_reasons bad own total s)
unfolding fitting_reasons total_reasons AllListed
fitting-listed table section bad own total s a eleven l p b small =
    let has : (n : ℕ) → one_of fitting_numbers n ≡ true → Has table section n = λ n e. all-of (numbers_of table section) fitting_numbers n a e in (
      (λ h. record { listed = has 8 refl; placed = record { given = h; within = omega arith } }),
      λ fine. (
        (λ h. placeless table own section (met own l h) p),
        λ kept. (
          (λ h. record { listed = eleven (ltb-true (length s) total h); placed = record { given = some (length s); within = omega arith } }),
          λ long. ((λ h. record { listed = has 21 refl; placed = record { given = some total; within = omega (arith, ltb-true total (length s) h) } }), λ whole. tt),
        ),
      ),
    )
  where
    met : (n : ℕ) → one_of (0 ∷ numbers_of table section) n ≡ true → not (eqb n 0) ≡ true → Has table section n
    met n l h = by-test (λ (t : Bool). not t ≡ true → cond t true (one_of (numbers_of table section) n) ≡ true → Has table section n) (eqb n 0)
        (λ e h l. absurd (true≢false (sym h))) (λ e h l. l) h l

-- what follows the head is a section of no more than 65,536 octets
pub head-refuses : (table : List Row) (section : ℕ) (s : List ℕ) (o : Outcome) → all_of (numbers_of table section) head_numbers ≡ true → (length s ≤ 65536 → Refuses table o) → Refuses table (first_of section (head_reasons section s) o)
unfolding AllListed NoneHold
head-refuses table section s o a q =
    first-refuses table section (head_reasons section s) o (head-listed table section s [] a tt) (λ none. q (ltb-false _ _ none.1.0))

pub opening-refuses : (table : List Row) (section least : ℕ) (s : List ℕ) (o : Outcome) → all_of (numbers_of table section) opening_numbers ≡ true → (length s ≤ 65536 → Refuses table o) → Refuses table (first_of section (opening_reasons section least s) o)
unfolding opening_reasons NoneHold
opening-refuses table section least s o a q =
    first-refuses table section (opening_reasons section least s) o (opening-listed table section least s a) (λ none. q (ltb-false _ _ none.1.0))

-- the lowest bad field starts within the smallest total; 11 is listed where the total can be above the smallest, and where it can't be 7 catches
-- every section that is too short
pub template-refuses : (table : List Row) (section smallest bad own total : ℕ) (s : List ℕ) (o : Outcome) → all_of (numbers_of table section) template_numbers ≡ true → (smallest < total → one_of (numbers_of table section) 11 ≡ true) → one_of (0 ∷ numbers_of table section) own ≡ true → has_place own ≡ false → bad ≤ smallest → length s ≤ 65536 → Refuses table o → Refuses table (first_of section (template_reasons smallest bad own total s) o)
unfolding template_reasons AllListed
template-refuses table section smallest bad own total s o a eleven l p b small q =
    let parts = both_hold _ _ a in
    first-refuses table section (template_reasons smallest bad own total s) o (
      (λ h. placeless table 7 section parts.0 refl),
      λ long. let enough = ltb-false (length s) smallest long in fitting-listed table section bad own total s parts.1 (λ h. eleven (omega arith)) l p (omega arith) small,
    ) (λ none. q)

-- ---- where the lowest bad field starts

-- a rule can be broken only in a field of which a record holds the value
abbrev pub ruled : Field → Bool
ruled (held w a m) = true
ruled (said v) = false
ruled (shown w) = false

-- each such field stands behind the length, within the first `last` octets
abbrev pub stands : ℕ → ℕ → Field → Bool
stands last at f = leb 5 at && (leb at last && leb (at + width f) (last + 1))

pub stood : (last at : ℕ) (f : Field) → stands last at f ≡ true → (5 ≤ at) × (at ≤ last) × (at + width f ≤ last + 1)
stood last at f e =
    let p = both_hold (leb 5 at) (leb at last && leb (at + width f) (last + 1)) e in
    let q = both_hold (leb at last) (leb (at + width f) (last + 1)) p.1 in
    (leb-true _ _ p.0, leb-true _ _ q.0, leb-true _ _ q.1)

unfoldable pub stand_within : ℕ → List FieldAt → Bool
stand_within last [] = true
stand_within last (p ∷ ps) = cond (ruled p.field) (stands last p.at p.field) true && stand_within last ps

bad-at : (last : ℕ) (ps : List FieldAt) (s : List ℕ) → stand_within last ps ≡ true → bad_place ps s ≤ last
unfolding lowest_bad stand_within
bad-at last [] s b = omega arith
bad-at last (p ∷ ps) s b =
    let parts = both_hold _ _ b in
    by p.field (raw_at p s) parts.0 (bad-at last ps s parts.1)
  where
    starts : (t : Bool) → p.at ≤ last → bad_place ps s ≤ last → cond t (bad_place ps s) p.at ≤ last
    starts true e rest = rest
    starts false e rest = e

    by : (f : Field) (x : ℕ) → cond (ruled f) (stands last p.at f) true ≡ true → bad_place ps s ≤ last → cond (allowed f x) (bad_place ps s) p.at ≤ last
    by (held w a m) x e rest = starts (a x) (stood last p.at (held w a m) e).1 rest
    by (said v) x e rest = rest
    by (shown w) x e rest = rest

-- of a section's fields, which begin with its length
pub bad-within : (last : ℕ) (fs : List Field) (s : List ℕ) → stand_within last (placed 0 5 fs) ≡ true → bad_place (after 0 (raw 4 ∷ fs)) s ≤ last
unfolding lowest_bad placed
bad-within last fs s b = bad-at last (placed 0 5 fs) s b

-- ---- the refusal that a reader is told: none, or one of the numbers

pub head-told : (section : ℕ) (s : List ℕ) → PassedOrListed (row section head_numbers ∷ []) (first_refusal section (head_reasons section s))
unfolding AllListed
head-told section s =
    let table = row section head_numbers ∷ [] in
    first-listed table section (head_reasons section s) (head-listed table section s [] (rw (eq-eqb section section refl)) tt)

pub opening-told : (section least : ℕ) (s : List ℕ) → PassedOrListed (row section opening_numbers ∷ []) (first_refusal section (opening_reasons section least s))
opening-told section least s =
    let table = row section opening_numbers ∷ [] in
    first-listed table section (opening_reasons section least s) (opening-listed table section least s (rw (eq-eqb section section refl)))

-- with an own number that has no place, and a bad field of the section, which has passed its head
pub fitting-told : (section bad own total : ℕ) (s : List ℕ) → has_place own ≡ false → bad ≤ length s → length s ≤ 65536
    → PassedOrListed (row section (8 ∷ 11 ∷ 21 ∷ own ∷ []) ∷ []) (first_refusal section (fitting_reasons bad own total s))
fitting-told section bad own total s p b small =
    let table = row section (8 ∷ 11 ∷ 21 ∷ own ∷ []) ∷ [] in
    let P : Bool → Type 0 = λ t. t ≡ true in
    first-listed table section (fitting_reasons bad own total s)
    (fitting-listed table section bad own total s (rw (eq-eqb section section refl)) (λ h. rw (eq-eqb section section refl))
    (rw (eq-eqb section section refl, eq-eqb own own refl) (either P (eqb own 0) refl (either P (eqb own 8) refl (either P (eqb own 11) refl (either P (eqb own 21) refl refl)))))
    p b small)

-- by the total alone
pub total-told : (section total : ℕ) (s : List ℕ) → length s ≤ 65536 → PassedOrListed (row section (11 ∷ 21 ∷ []) ∷ []) (first_refusal section (total_reasons total s))
unfolding total_reasons AllListed
total-told section total s small =
    first-listed (row section (11 ∷ 21 ∷ []) ∷ []) section (total_reasons total s) (
      (λ h. record { listed = rw (eq-eqb section section refl) refl; placed = record { given = some (length s); within = omega arith } }),
      λ long. ((λ h. record { listed = rw (eq-eqb section section refl) refl; placed = record { given = some total; within = omega (arith, ltb-true total (length s) h) } }), λ whole. tt),
    )

-- by a field alone
pub field-told : (section at : ℕ) (fine : Bool) → 1 ≤ at → at ≤ last_place → PassedOrListed (row section (8 ∷ []) ∷ []) (if_allowed section at fine)
field-told section at true first last = passed
field-told section at false first last =
    listed _ (record { listed = rw (eq-eqb section section refl) refl; placed = record { given = rw (ne_eqb at 0 (λ e. omega arith)); within = last } })

-- ---- a number that a table lacks

-- no section of it has the number
abbrev pub lacks : ℕ → List Row → Bool
lacks number [] = true
lacks number (r ∷ rs) = not (one_of r.numbers number) && lacks number rs

pub never-listed : (number : ℕ) (table : List Row) (section : ℕ) → lacks number table ≡ true → one_of (numbers_of table section) number ≡ true → ⊥
never-listed number [] section p e = true≢false (sym e)
never-listed number (r ∷ rs) section p e =
    let parts = both_hold _ _ p in
    by (eqb section r.section) parts.0 (never-listed number rs section parts.1) e
  where
    not-both : (t : Bool) → not t ≡ true → t ≡ true → ⊥
    not-both true n e = true≢false (sym n)
    not-both false n e = true≢false (sym e)

    by : (t : Bool) → not (one_of r.numbers number) ≡ true → (one_of (numbers_of rs section) number ≡ true → ⊥) → one_of (cond t r.numbers (numbers_of rs section)) number ≡ true → ⊥
    by true n rest e = not-both _ n e
    by false n rest e = rest e

-- ---- as one number

-- what it needs: its number is not 0, and there is room for its place
abbrev pub Proper : Outcome → Type 0
Proper (refused number section place) = (number ≡ 0 → ⊥) × (place ≤ last_place)
Proper (read vs) = Unit {0}

-- no section of a table has the number 0
abbrev pub positive : List Row → Bool
positive table = lacks 0 table

pub proper : (table : List Row) (o : Outcome) → positive table ≡ true → Refuses table o → Proper o
proper table (refused number section place) p h =
    ((λ z. never-listed 0 table section p (subst (λ (n : ℕ). one_of (numbers_of table section) n ≡ true) z h.listed)), h.placed.within)
proper table (read vs) p h = tt
