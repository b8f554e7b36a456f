-- What bit 8 of the scanning mode changes, and that it changes nothing else. (`specs/OffsetRows.antt` has what is said of it.)
-- Assumes nothing.
use Prim.Native.Nat.{ℕ, ◌+◌, ◌-◌, ◌*◌, ◌%◌, ◌≤◌, ◌<◌}
use native.Mathlib.Omega.{arith}
use mathlib.Core.Path.{◌≡◌, refl, sym, ap, subst, ◌∙◌}
use mathlib.Core.Logic.{◌↔◌, ◌⊎◌, inl, inr, ⊎_elim}
use mathlib.Core.List.{List, [], ◌∷◌, ◌++◌}
use mathlib.Core.Bool.{Bool, not, cond}
use lib.Dec.{ltb, eqb}
use lib.ListN.{length}
use borrow.Author.Tests.{eq-eqb, ne_eqb, eqb-true, eqb-false}
use Rattle.octets.specs.Octets.{be_at}
use Rattle.octets.proofs.Laws.{be_at-drop, be_at-take}
use Rattle.layout.specs.Fields.{Value, after, bad_place}
use Rattle.layout.specs.Outcomes.{Outcome, refused, read, Reason, reason, first_of, opening_reasons, total_reasons, fitting_reasons, template_reasons}
use Rattle.layout.specs.Totals.{NoLower, RefusedWith}
use Rattle.layout.proofs.Outcomes.{NoneHold, either, none_last, same-or-none, first-append}
use Rattle.layout.proofs.Ranges.{same_test}
use Rattle.layout.proofs.Refusals.{by-test}
use Rattle.layout.proofs.Totals.{AllOther, other-numbers, AllLower, behind-lower, opening-lower, template-whole}
use Rattle.grid.specs.Templates.{template_named, base_end, fields₃, ni, nj, list_count, list_octets, total, values₃}
use Rattle.grid.specs.Agreement.{agreed, disagreement}
use Rattle.grid.specs.Points.{sum_of, points_without_list, points_of, points_reasons}
use Rattle.grid.specs.Section3.{as_template, outcome₃}
use Rattle.grid.specs.Accepted.{PolesPresent, NoList, AList, Follows₃}
use Rattle.grid.specs.OffsetRows.{PointsStand, OtherPoints, points_before, as_template_before, outcome_before, Freed}
use Rattle.grid.specs.declared.templates.Template.{Template}
use Rattle.grid.specs.declared.templates.Template.TheVariants.{LatLon, Rotated, Stretched, StretchedAndRotated}
use Rattle.grid.proofs.AcceptedExactlyWhen.{points-without, bit-or-product, by-bit-or-product}
use Rattle.grid.proofs.Widths.{width-listed, listed-not-0, base-between}

-- ---- where the points are those that they were, so is the outcome

module _ (s : List ℕ) where
  as_before : points_of (template_named s) s ≡ points_before (template_named s) s → outcome₃ s ≡ outcome_before s
  unfolding outcome₃ as_template outcome_before as_template_before
  as_before e = rw e

  pub without-the-bit : (be_at s 72 1 % 2 ≡ 1 → ⊥) → outcome₃ s ≡ outcome_before s
  unfolding points_of points_without_list points_before
  without-the-bit clear = as_before (rw (ne_eqb _ _ clear))

  pub with-a-list : (be_at s 11 1 ≡ 0 → ⊥) → outcome₃ s ≡ outcome_before s
  unfolding points_of points_before
  with-a-list listed = as_before (rw (ne_eqb _ _ listed))

  -- also with the bit
  pub with-its-product : be_at s 7 4 ≡ be_at s 31 4 * be_at s 35 4 → outcome₃ s ≡ outcome_before s
  unfolding points_of points_without_list points_before
  with-its-product e =
      let product : cond (eqb (be_at s 72 1 % 2) 1) (be_at s 7 4) (ni s * nj s) ≡ ni s * nj s = either (λ n. n ≡ ni s * nj s) (eqb (be_at s 72 1 % 2) 1) e refl in
      as_before (rw product)

-- ---- the bit, and no list

-- the reasons that come before the points
abbrev earlier : List ℕ → List Reason
earlier s =
    let template = template_named s in
    opening_reasons 3 14 s
    ++ (reason 6 (ltb 3 (be_at s 13 2))
    ∷ template_reasons (base_end template) (bad_place (after 0 (fields₃ template (list_octets s))) s) (disagreement s) (total template s) s)

module _ (s : List ℕ) (stand : PointsStand s) where
  points-are : be_at s 7 4 ≡ points_of (template_named s) s
  points-are = by-bit-or-product s (inl stand.bit) ∙ sym (points-without (template_named s) s stand.no-list)

  -- 13 never holds
  behind-all : first_of 3 (points_reasons (template_named s) s) (read (values₃ (template_named s) s)) ≡ read (values₃ (template_named s) s)
  unfolding NoneHold
  behind-all = none_last 3 (points_reasons (template_named s) s) (read (values₃ (template_named s) s)) (same_test _ _ points-are, tt)

  outcome-now : outcome₃ s ≡ first_of 3 (earlier s) (read (values₃ (template_named s) s))
  unfolding outcome₃ as_template first_of
  outcome-now = rw behind-all (sym (first-append 3 (opening_reasons 3 14 s) _ (read (values₃ (template_named s) s))))

  -- and no other reason has its number
  pub never-13 : RefusedWith 13 (outcome₃ s) → ⊥
  unfolding AllOther opening_reasons template_reasons fitting_reasons total_reasons
  never-13 =
      let own = either (λ (n : ℕ). n ≡ 13 → ⊥) (not (agreed s)) {x = 10} {y = 0} (eqb-false 10 13 refl) (eqb-false 0 13 refl) in
      rw outcome-now (other-numbers 13 3 (earlier s) (read (values₃ (template_named s) s)) (search (eqb-false, own)) (λ e. e))

  -- before, 13 was met where the points are not Ni x Nj
  outcome-before : (be_at s 7 4 ≡ be_at s 31 4 * be_at s 35 4 → ⊥) → outcome_before s ≡ first_of 3 (earlier s) (refused 13 3 0)
  unfolding outcome_before as_template_before points_before first_of
  outcome-before differ =
      rw (eq-eqb _ _ stand.no-list, ne_eqb _ _ differ) (sym (first-append 3 (opening_reasons 3 14 s) _ (refused 13 3 0)))

  -- so it is read, unless it was refused with a reason that comes before the points, and is so still
  freed-or-same : (be_at s 7 4 ≡ be_at s 31 4 * be_at s 35 4 → ⊥) → (outcome₃ s ≡ outcome_before s) ⊎ Freed s
  freed-or-same differ =
      ⊎_elim (λ e. inl (outcome-now ∙ e ∙ sym (outcome-before differ)))
      (λ none. inr (record {
        stand = stand;
        differ = differ;
        before = outcome-before differ ∙ none_last 3 (earlier s) (refused 13 3 0) none;
        now = outcome-now ∙ none_last 3 (earlier s) (read (values₃ (template_named s) s)) none;
      }))
      (same-or-none 3 (earlier s) (read (values₃ (template_named s) s)) (refused 13 3 0))

-- ---- the outcome is what it was but where 13 was given for Ni x Nj with the bit

pub changed-here-only : (s : List ℕ) → (outcome₃ s ≡ outcome_before s) ⊎ Freed s
changed-here-only s =
    let Goal : Bool → Type 0 = λ t. (outcome₃ s ≡ outcome_before s) ⊎ Freed s in
    by-test Goal (eqb (be_at s 11 1) 0)
    (λ w. by-test Goal (eqb (be_at s 72 1 % 2) 1)
    (λ b. by-test Goal (eqb (be_at s 7 4) (be_at s 31 4 * be_at s 35 4)) (λ e. inl (with-its-product s (eqb-true _ _ e)))
    (λ d. freed-or-same s (record { no-list = eqb-true _ _ w; bit = eqb-true _ _ b }) (eqb-false _ _ d)))
    (λ b. inl (without-the-bit s (eqb-false _ _ b))))
    (λ w. inl (with-a-list s (eqb-false _ _ w)))

pub thirteen-narrowed : (s : List ℕ) → RefusedWith 13 (outcome₃ s) ↔ (RefusedWith 13 (outcome_before s) × (PointsStand s → ⊥))
thirteen-narrowed s =
    ⊎_elim
    (λ e. ((λ r. (subst (RefusedWith 13) e r, λ o. never-13 s o r)), (λ p. subst (RefusedWith 13) (sym e) p.0)))
    (λ f. ((λ r. absurd (never-13 s f.stand r)), (λ p. absurd (p.1 f.stand))))
    (changed-here-only s)

-- ---- 13 in plain words, where no lower refusal is given and the section has its total

by-points : (s : List ℕ) → NoLower (outcome₃ s) → length s ≡ total (template_named s) s → outcome₃ s ≡ first_of 3 (points_reasons (template_named s) s) (read (values₃ (template_named s) s))
unfolding outcome₃ as_template AllLower
by-points s n whole =
    let template = template_named s in
    let last = first_of 3 (points_reasons template s) (read (values₃ template s)) in
    let own = either (λ (m : ℕ). m < 11) (not (agreed s)) {x = 10} {y = 0} (omega arith) (omega arith) in
    behind-lower (λ (o : Outcome). o ≡ last) 3 (opening_reasons 3 14 s) _ (opening-lower 3 14 s)
    (behind-lower (λ (o : Outcome). o ≡ last) 3 (reason 6 (ltb 3 (be_at s 13 2)) ∷ []) _ (omega arith, tt)
    (template-whole 3 (base_end template) _ (disagreement s) (total template s) s last own whole)) n

decided : (m n : ℕ) (vs : List Value) → RefusedWith 13 (first_of 3 (reason 13 (not (eqb m n)) ∷ []) (read vs)) ↔ (m ≡ n → ⊥)
unfolding first_of
decided m n vs = ((λ r e. rw (eq-eqb m n e) at r), (λ differ. rw (ne_eqb m n differ) refl))

module _ (s : List ℕ) (n : NoLower (outcome₃ s)) (whole : length s ≡ total (template_named s) s) where
  thirteen : RefusedWith 13 (outcome₃ s) ↔ (be_at s 7 4 ≡ points_of (template_named s) s → ⊥)
  thirteen = rw (by-points s n whole) (decided _ _ _)

  pub thirteen-by-the-sum : (be_at s 11 1 ≡ 0 → ⊥) → RefusedWith 13 (outcome₃ s) ↔ (be_at s 7 4 ≡ sum_of (base_end (template_named s)) (be_at s 11 1) s (list_count s) → ⊥)
  unfolding points_of
  thirteen-by-the-sum listed = rw (ne_eqb _ _ listed) at thirteen

  pub thirteen-by-the-product : be_at s 11 1 ≡ 0 → RefusedWith 13 (outcome₃ s) ↔ ((be_at s 72 1 % 2 ≡ 1 → ⊥) × (be_at s 7 4 ≡ be_at s 31 4 * be_at s 35 4 → ⊥))
  thirteen-by-the-product none =
      let points = points-without (template_named s) s none in (
        (λ r. ((λ b. thirteen.0 r (by-bit-or-product s (inl b) ∙ sym points)), (λ e. thirteen.0 r (by-bit-or-product s (inr e) ∙ sym points)))),
        (λ p. thirteen.1 (λ e. ⊎_elim p.0 p.1 (bit-or-product s (e ∙ points)))),
      )

-- ---- octets 7-10 stand as they are, whatever they are

module _ (s t : List ℕ) (o : OtherPoints s t) where
  behind-same : (at width : ℕ) → 11 ≤ at → be_at t at width ≡ be_at s at width
  behind-same at width h =
      let e : at - 10 + 10 ≡ at = omega arith in
      let in-t = rw e at (be_at-drop t 10 (at - 10) width (omega arith)) in
      let in-s = rw e at (be_at-drop s 10 (at - 10) width (omega arith)) in
      sym in-t ∙ ap (λ (l : List ℕ). be_at l (at - 10) width) o.behind ∙ in-s

  ahead-same : 6 ≤ length s → (at width : ℕ) → at + width ≤ 7 → be_at t at width ≡ be_at s at width
  ahead-same long at width h =
      sym (be_at-take t 6 at width (omega (arith, o.as_long)) h) ∙ ap (λ (l : List ℕ). be_at l at width) o.ahead ∙ be_at-take s 6 at width long h

  -- what a number is not, it still is not
  still : (at n : ℕ) → 11 ≤ at → (be_at s at 4 ≡ n → ⊥) → be_at t at 4 ≡ n → ⊥
  still at n h differs e = differs (sym (behind-same at 4 h) ∙ e)

  still-present : (template : Template) → PolesPresent template s → PolesPresent template t
  still-present LatLon p = tt
  still-present Rotated p = (still 73 _ (omega arith) p.0, still 77 _ (omega arith) p.1)
  still-present Stretched p = (still 73 _ (omega arith) p.0, still 77 _ (omega arith) p.1)
  still-present StretchedAndRotated p =
      (still 73 _ (omega arith) p.0, still 77 _ (omega arith) p.1, still 85 _ (omega arith) p.2, still 89 _ (omega arith) p.3)

  module _ (stand : PointsStand s) where
    still-no-list : (template : Template) → NoList template s → NoList template t
    still-no-list template f = record {
      width = behind-same 11 1 (omega arith) ∙ f.width;
      interpretation = behind-same 12 1 (omega arith) ∙ f.interpretation;
      ni = still 31 _ (omega arith) f.ni;
      nj = still 35 _ (omega arith) f.nj;
      whole = o.as_long ∙ f.whole;
      points = inl (ap (λ (n : ℕ). n % 2) (behind-same 72 1 (omega arith)) ∙ stand.bit);
    }

    none-listed : (absent increment counted : ℕ) (template : Template) → AList absent increment counted template s → ⊥
    none-listed absent increment counted template f = eqb-false _ _ (listed-not-0 _ (width-listed _ f.width)) stand.no-list

    only-no-list : (template : Template) → NoList template s ⊎ (AList 31 64 35 template s ⊎ AList 35 68 31 template s) → NoList template s
    only-no-list template (inl f) = f
    only-no-list template (inr (inl f)) = absurd (none-listed 31 64 35 template f)
    only-no-list template (inr (inr f)) = absurd (none-listed 35 68 31 template f)

    pub points-stand : (template : Template) → Follows₃ template s → Follows₃ template t
    points-stand template f =
        let none = only-no-list template f.list in
        let ahead = ahead-same (omega (arith, none.whole, base-between template)) in
        record {
          small = omega (arith, o.as_long, f.small);
          says-length = ahead 1 4 (omega arith) ∙ f.says-length ∙ sym o.as_long;
          says-number = ahead 5 1 (omega arith) ∙ f.says-number;
          source = ahead 6 1 (omega arith) ∙ f.source;
          names = behind-same 13 2 (omega arith) ∙ f.names;
          ni = still 31 0 (omega arith) f.ni;
          nj = still 35 0 (omega arith) f.nj;
          subdivisions = still 43 0 (omega arith) f.subdivisions;
          la1 = still 47 _ (omega arith) f.la1;
          lo1 = still 51 _ (omega arith) f.lo1;
          la2 = still 56 _ (omega arith) f.la2;
          lo2 = still 60 _ (omega arith) f.lo2;
          poles = still-present template f.poles;
          list = inl (still-no-list template none);
        }
