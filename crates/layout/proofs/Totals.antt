-- What its total decides of a section, once over every section with a total.
-- Assumes nothing.
use Prim.Native.Nat.{ℕ, ◌+◌, ◌<◌, ◌≤◌}
use native.Mathlib.Omega.{arith}
use mathlib.Core.Path.{◌≡◌, refl, sym, subst, ◌∙◌}
use mathlib.Core.Logic.{⊎_elim}
use mathlib.Core.List.{List, [], ◌∷◌}
use mathlib.Core.Bool.{Bool, true, false, not, cond}
use lib.Dec.{ltb, eqb}
use lib.ListN.{length}
use borrow.Author.Tests.{lt-ltb, le-ltb, ltb-true, ltb-false}
use Rattle.layout.specs.Outcomes.{Outcome, refused, Reason, reason, bad_field, first_of, opening_reasons, total_reasons, fitting_reasons, template_reasons}
use Rattle.layout.specs.Totals.{NoLower, RefusedWith, ByTotal}
use Rattle.layout.proofs.Outcomes.{NoneHold, none_last, same-or-none, either}
use Rattle.layout.proofs.Ranges.{same_test}

-- ---- by the total's own reasons, if what follows them is refused with neither

module _ (section total : ℕ) (s : List ℕ) (rest : Outcome) (not-11 : RefusedWith 11 rest → ⊥) (not-21 : RefusedWith 21 rest → ⊥) where
  -- the outcome, by what the two tests say
  abbrev by : Bool → Bool → Outcome
  by short long = cond short (refused 11 section (length s + 1)) (cond long (refused 21 section (total + 1)) rest)

  only-short : (short long : Bool) → RefusedWith 11 (by short long) → short ≡ true
  only-short true long e = refl
  only-short false true e = absurd (omega (arith, e))
  only-short false false e = absurd (not-11 e)

  only-long : (short long : Bool) → RefusedWith 21 (by short long) → long ≡ true
  only-long true long e = absurd (omega (arith, e))
  only-long false true e = refl
  only-long false false e = absurd (not-21 e)

  neither : (short long : Bool) → (RefusedWith 11 (by short long) → ⊥) → (RefusedWith 21 (by short long) → ⊥) → (short ≡ false) × (long ≡ false)
  neither true long a b = absurd (a refl)
  neither false true a b = absurd (b refl)
  neither false false a b = (refl, refl)

  by-reasons : ByTotal section total s (first_of section (total_reasons total s) rest)
  unfolding first_of total_reasons
  by-reasons =
      let short = ltb (length s) total in
      let long = ltb total (length s) in
      record {
        shorter = λ h. rw (lt-ltb (length s) total h);
        only-shorter = λ e. ltb-true _ _ (only-short short long e);
        longer = λ h. rw (le-ltb (length s) total (omega arith), lt-ltb total (length s) h);
        only-longer = λ e. ltb-true _ _ (only-long short long e);
        whole = λ a b. let none = neither short long a b in omega (arith, ltb-false (length s) total none.0, ltb-false total (length s) none.1);
      }

-- each of these has another number
unfoldable pub AllOther : ℕ → List Reason → Type 0
AllOther number [] = Unit {0}
AllOther number (r ∷ rs) = (r.number ≡ number → ⊥) × AllOther number rs

-- reasons with other numbers, and then what is not refused with this one either
pub other-numbers : (number section : ℕ) (rs : List Reason) (o : Outcome) → AllOther number rs → (RefusedWith number o → ⊥) → RefusedWith number (first_of section rs o) → ⊥
unfolding first_of AllOther
other-numbers number section [] o others last = last
other-numbers number section (r ∷ rs) o others last =
    either (λ (x : Outcome). RefusedWith number x → ⊥) r.holds {x = refused r.number section r.place} {y = first_of section rs o} others.0
    (other-numbers number section rs o others.1 last)

pub other-number : (number section other : ℕ) (holds : Bool) (o : Outcome) → (other ≡ number → ⊥) → (RefusedWith number o → ⊥) → RefusedWith number (first_of section (reason other holds ∷ []) o) → ⊥
unfolding AllOther
other-number number section other holds o p = other-numbers number section (reason other holds ∷ []) o (p, tt)

-- ---- behind the lower reasons

-- each of these has a number below 11
unfoldable pub AllLower : List Reason → Type 0
AllLower [] = Unit {0}
AllLower (r ∷ rs) = (r.number < 11) × AllLower rs

-- what is not refused with a lower number comes by none of them
pub behind-lower : (P : Outcome → Type 0) (section : ℕ) (rs : List Reason) (o : Outcome) → AllLower rs → (NoLower o → P o) → NoLower (first_of section rs o) → P (first_of section rs o)
unfolding first_of AllLower
behind-lower P section [] o l p n = p n
behind-lower P section (r ∷ rs) o l p n = by-holding r.holds (behind-lower P section rs o l.1 p) n
  where
    by-holding : (t : Bool) → (NoLower (first_of section rs o) → P (first_of section rs o)) → NoLower (cond t (refused r.number section r.place) (first_of section rs o)) → P (cond t (refused r.number section r.place) (first_of section rs o))
    by-holding true q n = absurd (omega (arith, n, l.0))
    by-holding false q n = q n

pub opening-lower : (section least : ℕ) (s : List ℕ) → AllLower (opening_reasons section least s)
unfolding AllLower opening_reasons
opening-lower section least s = (omega arith, (omega arith, (omega arith, (omega arith, (omega arith, tt)))))

-- 7, 8 and the section's own number, which are tested before the total
abbrev lower : ℕ → ℕ → ℕ → List ℕ → List Reason
lower smallest bad own s = reason 7 (ltb (length s) smallest) ∷ bad_field bad ∷ reason own (not (eqb own 0)) ∷ []

-- once the template is known: these, the total, and what follows
pub template-by-total : (section smallest bad own total : ℕ) (s : List ℕ) (rest : Outcome) → own < 11 → (RefusedWith 11 rest → ⊥) → (RefusedWith 21 rest → ⊥)
    → NoLower (first_of section (template_reasons smallest bad own total s) rest) → ByTotal section total s (first_of section (template_reasons smallest bad own total s) rest)
unfolding first_of AllLower template_reasons fitting_reasons
template-by-total section smallest bad own total s rest small not-11 not-21 =
    behind-lower (ByTotal section total s) section (lower smallest bad own s) (first_of section (total_reasons total s) rest)
    (omega arith, (omega arith, (small, tt))) (λ n. by-reasons section total s rest not-11 not-21)

-- where no lower refusal is given and the section has its total, what follows decides
pub template-whole : (section smallest bad own total : ℕ) (s : List ℕ) (rest : Outcome) → own < 11 → length s ≡ total → NoLower (first_of section (template_reasons smallest bad own total s) rest) → first_of section (template_reasons smallest bad own total s) rest ≡ rest
unfolding first_of AllLower NoneHold template_reasons fitting_reasons total_reasons
template-whole section smallest bad own total s rest small whole =
    behind-lower (λ (o : Outcome). o ≡ rest) section (lower smallest bad own s) (first_of section (total_reasons total s) rest) (omega arith, (omega arith, (small, tt)))
    (λ n. none_last section (total_reasons total s) rest (le-ltb (length s) total (omega arith), (le-ltb total (length s) (omega arith), tt)))

-- and where none of these holds
pub fits-by-total : (section smallest bad own total : ℕ) (s : List ℕ) (rest : Outcome) → smallest ≤ length s → bad ≡ 0 → own ≡ 0 → (RefusedWith 11 rest → ⊥) → (RefusedWith 21 rest → ⊥)
    → ByTotal section total s (first_of section (template_reasons smallest bad own total s) rest)
unfolding first_of NoneHold template_reasons fitting_reasons
fits-by-total section smallest bad own total s rest enough in-range own-kept not-11 not-21 =
    let last = none_last section (lower smallest bad own s) (first_of section (total_reasons total s) rest) (le-ltb _ _ enough, (same_test _ _ in-range, (same_test _ _ own-kept, tt))) in
    subst (ByTotal section total s) (sym last) (by-reasons section total s rest not-11 not-21)

-- ---- and a lower refusal is given whatever the total is, and whatever is tested behind it

-- a refusal of these reasons that is lower than what follows them is given whatever follows
lower-kept : (section : ℕ) (rs : List Reason) (o o' : Outcome) (number place : ℕ) → NoLower o → number < 11 → first_of section rs o ≡ refused number section place → first_of section rs o' ≡ refused number section place
lower-kept section rs o o' number place n l e =
    ⊎_elim (λ same. sym same ∙ e) (λ none. absurd (omega (arith, l, subst NoLower (sym (none_last section rs o none) ∙ e) n))) (same-or-none section rs o o')

-- the total's own reasons are not lower
total-not-lower : (section total : ℕ) (s : List ℕ) (rest : Outcome) → NoLower rest → NoLower (first_of section (total_reasons total s) rest)
unfolding first_of total_reasons
total-not-lower section total s rest n =
    either NoLower (ltb (length s) total) {x = refused 11 section (length s + 1)} {y = cond (ltb total (length s)) (refused 21 section (total + 1)) rest} (omega arith)
    (either NoLower (ltb total (length s)) {x = refused 21 section (total + 1)} {y = rest} (omega arith) n)

pub lower-whatever-total : (section smallest bad own total total' : ℕ) (s : List ℕ) (rest rest' : Outcome) (number place : ℕ) → NoLower rest → number < 11
    → first_of section (template_reasons smallest bad own total s) rest ≡ refused number section place
    → first_of section (template_reasons smallest bad own total' s) rest' ≡ refused number section place
unfolding first_of template_reasons fitting_reasons
lower-whatever-total section smallest bad own total total' s rest rest' number place n l =
    lower-kept section (lower smallest bad own s) (first_of section (total_reasons total s) rest) (first_of section (total_reasons total' s) rest') number place (total-not-lower section total s rest n) l
