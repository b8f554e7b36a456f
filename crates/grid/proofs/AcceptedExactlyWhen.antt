-- A section 3 is accepted exactly when it follows a template and keeps the value rules; what is read out are then the values
-- of that template's fields.
-- Assumes nothing.
use Prim.Native.Nat.{ℕ, zero, suc, ◌*◌, ◌%◌, ◌≤◌}
use native.Mathlib.Nat.{zero-mul}
use native.Mathlib.Omega.{arith}
use mathlib.Core.Path.{◌≡◌, refl, ap, sym, ◌∙◌}
use mathlib.Core.Logic.{◌↔◌, ◌⊎◌, inl, inr}
use mathlib.Core.List.{List, [], ◌∷◌}
use mathlib.Core.Bool.{Bool, true, false, cond, ◌&&◌, ◌||◌, or-true}
use lib.ListN.{length}
use lib.Dec.{ltb, eqb}
use borrow.Author.Tests.{le-ltb, ltb-false, eq-eqb, ne_eqb, eqb-true, not-false}
use Rattle.octets.specs.Octets.{be_at}
use Rattle.layout.specs.Fields.{Value, between, after, placed, bad_place, AllAllowed}
use Rattle.layout.specs.Outcomes.{read, reason}
use Rattle.layout.proofs.Blocks.{bad-none, none-bad}
use Rattle.layout.proofs.Outcomes.{Headed, Fits, NoneHold, either, read_none, none_last, opening-read, opening-last, template-read, template-last}
use Rattle.layout.proofs.Ranges.{both_hold, either-holds, between_in, in_between, test-differs, differs-test, test-same, same_test, test-unmet}
use Rattle.grid.specs.Blocks.{has_list, grid_head, counts, corners, pole, poles}
use Rattle.grid.specs.Templates.{fields₃, base_end, list_width, interpretation, ni, nj, list_count, list_octets, total, values₃, template_numbered, template_named}
use Rattle.grid.specs.Agreement.{missing_with, agreed_without_list, agreed_with_list, agreed, disagreement}
use Rattle.grid.specs.Points.{sum_of, points_without_list, points_of, points_reasons}
use Rattle.grid.specs.Section3.{as_template, outcome₃}
use Rattle.grid.specs.Accepted.{number_of, Missing, Present, PolesPresent, NoList, AList, Follows₃}
use Rattle.grid.specs.declared.templates.Template.{Template}
use Rattle.grid.specs.declared.templates.Template.TheVariants.{LatLon, Rotated, Stretched, StretchedAndRotated}
use Rattle.grid.proofs.Widths.{which-width, width-listed, listed-not-0, base-between}
use Rattle.grid.proofs.FieldsByBlock.{allowed-by-block, block-by-block-allowed}

-- ---- the template

numbered : (n : ℕ) → n ≤ 3 → n ≡ number_of (template_numbered n)
unfolding template_numbered
numbered zero h = refl
numbered (suc zero) h = refl
numbered (suc (suc zero)) h = refl
numbered (suc (suc (suc n))) h = omega arith

number-up-to-3 : (template : Template) → number_of template ≤ 3
number-up-to-3 LatLon = omega arith
number-up-to-3 Rotated = omega arith
number-up-to-3 Stretched = omega arith
number-up-to-3 StretchedAndRotated = omega arith

pub named : (template : Template) → template_numbered (number_of template) ≡ template
unfolding template_numbered
named LatLon = refl
named Rotated = refl
named Stretched = refl
named StretchedAndRotated = refl

pub names-it : (template : Template) (s : List ℕ) → Follows₃ template s → template_named s ≡ template
names-it template s f = ap template_numbered f.names ∙ named template

-- ---- the poles

poles-in : (template : Template) (s : List ℕ) → AllAllowed (after 72 (poles template)) s → PolesPresent template s
unfolding AllAllowed placed pole poles
poles-in LatLon s h = tt
poles-in Rotated s h = search test-differs
poles-in Stretched s h = search test-differs
poles-in StretchedAndRotated s h = search test-differs

in-poles : (template : Template) (s : List ℕ) → PolesPresent template s → AllAllowed (after 72 (poles template)) s
unfolding AllAllowed placed pole poles
in-poles LatLon s h = search
in-poles Rotated s h = search (differs-test _ _ h.0, differs-test _ _ h.1)
in-poles Stretched s h = search (differs-test _ _ h.0, differs-test _ _ h.1)
in-poles StretchedAndRotated s h = search (differs-test _ _ h.0, differs-test _ _ h.1, differs-test _ _ h.2, differs-test _ _ h.3)

-- ---- the list: what the tests say of the width, Ni, Nj, Di, Dj and octet 12

-- one of Ni and Nj is missing with its increment, and the other is there
abbrev MissingWith : ℕ → ℕ → ℕ → List ℕ → Type 0
MissingWith absent increment counted s = Missing absent s × Missing increment s × Present counted s

missing-in : (absent increment counted : ℕ) (s : List ℕ) → missing_with absent increment counted s ≡ true → MissingWith absent increment counted s
unfolding missing_with
missing-in absent increment counted s e =
    let p = both_hold _ _ e in
    let q = both_hold _ _ p.1 in
    (eqb-true _ _ p.0, eqb-true _ _ q.0, test-differs _ _ q.1)

in-missing : (absent increment counted : ℕ) (s : List ℕ) → MissingWith absent increment counted s → missing_with absent increment counted s ≡ true
unfolding missing_with
in-missing absent increment counted s m = simp (eq-eqb _ _ m.0, eq-eqb _ _ m.1, ne_eqb _ _ m.2)

-- ---- without a list, and with one

module _ (template : Template) (s : List ℕ) (width : list_width s ≡ 0) where
  total-without : total template s ≡ base_end template
  total-without = rw (width, zero-mul) (omega arith)

  pub points-without : points_of template s ≡ points_without_list s
  unfolding points_of
  points-without = rw width

module _ (template : Template) (s : List ℕ) (width : has_list (list_width s) ≡ true) where
  count-i : Missing 31 s → list_count s ≡ nj s
  unfolding list_count
  count-i m = simp (listed-not-0 _ width, eq-eqb _ _ m)

  count-j : Present 31 s → list_count s ≡ ni s
  unfolding list_count
  count-j p = simp (listed-not-0 _ width, ne_eqb _ _ p)

  pub points-listed : points_of template s ≡ sum_of (base_end template) (list_width s) s (list_count s)
  unfolding points_of
  points-listed = simp (listed-not-0 _ width)

-- without a list: bit 8 of the scanning mode is set, or the points are Ni x Nj
pub bit-or-product : (s : List ℕ) → be_at s 7 4 ≡ points_without_list s → (be_at s 72 1 % 2 ≡ 1) ⊎ (be_at s 7 4 ≡ ni s * nj s)
unfolding points_without_list
bit-or-product s = by (eqb (be_at s 72 1 % 2) 1) refl
  where
    by : (t : Bool) → eqb (be_at s 72 1 % 2) 1 ≡ t → be_at s 7 4 ≡ cond t (be_at s 7 4) (ni s * nj s) → (be_at s 72 1 % 2 ≡ 1) ⊎ (be_at s 7 4 ≡ ni s * nj s)
    by true b e = inl (eqb-true _ _ b)
    by false b e = inr e

pub by-bit-or-product : (s : List ℕ) → (be_at s 72 1 % 2 ≡ 1) ⊎ (be_at s 7 4 ≡ ni s * nj s) → be_at s 7 4 ≡ points_without_list s
unfolding points_without_list
by-bit-or-product s (inl b) = rw (eq-eqb _ _ b)
by-bit-or-product s (inr e) = either (λ n. be_at s 7 4 ≡ n) (eqb (be_at s 72 1 % 2) 1) refl e

-- ---- accepted, so it follows

-- the reasons 10, 11, 21 and 13 in plain words
module _ (template : Template) (s : List ℕ) (whole : length s ≡ total template s) (points : be_at s 7 4 ≡ points_of template s) where
  no-list-follows : list_width s ≡ 0 → agreed_without_list s ≡ true → NoList template s
  unfolding agreed_without_list
  no-list-follows w e =
      let agree = both_hold _ _ e in
      let present = both_hold _ _ agree.1 in
      record {
        width = w;
        interpretation = eqb-true _ _ agree.0;
        ni = test-differs _ _ present.0;
        nj = test-differs _ _ present.1;
        whole = whole ∙ total-without template s w;
        points = bit-or-product s (points ∙ points-without template s w);
      }

  list-follows : (absent increment counted : ℕ) → has_list (list_width s) ≡ true → between 1 2 (interpretation s) ≡ true → MissingWith absent increment counted s → list_count s ≡ be_at s counted 4 → AList absent increment counted template s
  list-follows absent increment counted w i m n = record {
    width = which-width _ w;
    interpretation = between_in _ _ _ i;
    missing = m.0;
    increment-missing = m.1;
    count = m.2;
    whole = rw n at whole;
    points = rw n at (points ∙ points-listed template s w);
  }

  fitting-follows : agreed s ≡ true → NoList template s ⊎ (AList 31 64 35 template s ⊎ AList 35 68 31 template s)
  unfolding agreed agreed_with_list
  fitting-follows e = by_width (eqb (list_width s) 0) refl e
    where
      with-list : has_list (list_width s) ≡ true → between 1 2 (interpretation s) ≡ true → (missing_with 31 64 35 s ≡ true) ⊎ (missing_with 35 68 31 s ≡ true) → AList 31 64 35 template s ⊎ AList 35 68 31 template s
      with-list w i (inl h) =
          let m = missing-in 31 64 35 s h in
          inl (list-follows 31 64 35 w i m (count-i template s w m.0))
      with-list w i (inr h) =
          let m = missing-in 35 68 31 s h in
          inr (list-follows 35 68 31 w i m (count-j template s w m.2))

      by_width : (t : Bool) → eqb (list_width s) 0 ≡ t → cond t (agreed_without_list s) (has_list (list_width s) && agreed_with_list s) ≡ true → NoList template s ⊎ (AList 31 64 35 template s ⊎ AList 35 68 31 template s)
      by_width true h e = inl (no-list-follows (eqb-true _ _ h) e)
      by_width false h e =
          let agree = both_hold _ _ e in
          let rest = both_hold _ _ agree.1 in
          inr (with-list agree.0 rest.0 (either-holds _ _ rest.1))

pub accepted-follows : (s : List ℕ) (vs : List Value) → outcome₃ s ≡ read vs → (template : Template) × Follows₃ template s × (vs ≡ values₃ template s)
unfolding outcome₃ as_template NoneHold AllAllowed placed grid_head counts corners
accepted-follows s vs e =
    let template = template_named s in
    let head = opening-read 3 s _ 14 vs e in
    let number = read_none 3 (reason 6 (ltb 3 (be_at s 13 2)) ∷ []) _ vs head.2 in
    let fits = template-read 3 s _ _ _ _ _ vs number.1 in
    let points = read_none 3 (points_reasons template s) (read (values₃ template s)) vs fits.1 in
    let fine = bad-none 0 1 (fields₃ template (list_octets s)) s (omega arith) fits.0.in-range in
    let block = allowed-by-block template (list_octets s) s fine in (
      template,
      record {
        small = head.0.small;
        says-length = head.0.says-length;
        says-number = head.0.says-number;
        source = omega (arith, (between_in _ _ _ block.0.1.1.0).1);
        names = numbered _ (ltb-false _ _ number.0.0);
        ni = test-differs _ _ block.1.0;
        nj = test-differs _ _ block.1.1.0;
        subdivisions = test-differs _ _ block.1.1.1.1.0;
        la1 = test-differs _ _ block.2.0;
        lo1 = test-differs _ _ block.2.1.0;
        la2 = test-differs _ _ block.2.1.1.1.0;
        lo2 = test-differs _ _ block.2.1.1.1.1.0;
        poles = poles-in template s block.3;
        list = fitting-follows template s fits.0.whole (test-same _ _ points.0.0) (not-false _ (test-unmet 9 _ fits.0.own-kept));
      },
      cc,
    )

-- ---- it follows, so it is accepted

-- none of the reasons 10, 11, 21 and 13, and octets 11 and 12 are in their ranges
pub record FitTogether (template : Template) (s : List ℕ) : Type 0 where
  pub width : (eqb (list_width s) 0 || has_list (list_width s)) ≡ true
  pub interpretation : be_at s 12 1 ≤ 2
  pub agree : agreed s ≡ true
  pub whole : length s ≡ total template s
  pub points : be_at s 7 4 ≡ points_of template s

no-list-fits : (template : Template) (s : List ℕ) → NoList template s → FitTogether template s
unfolding agreed agreed_without_list
no-list-fits template s f = record {
  width = rw f.width;
  interpretation = rw f.interpretation (omega arith);
  agree =
      simp (f.width, f.interpretation, ne_eqb _ _ f.ni, ne_eqb _ _ f.nj);
  whole = f.whole ∙ sym (total-without template s f.width);
  points = by-bit-or-product s f.points ∙ sym (points-without template s f.width);
}

list-fits : (absent increment counted : ℕ) (template : Template) (s : List ℕ) → (missing_with 31 64 35 s || missing_with 35 68 31 s) ≡ true → list_count s ≡ be_at s counted 4 → AList absent increment counted template s → FitTogether template s
unfolding agreed agreed_with_list
list-fits absent increment counted template s m n f =
    let w = width-listed _ f.width in
    record {
      width = simp (listed-not-0 _ w, w);
      interpretation = f.interpretation.1;
      agree = simp (listed-not-0 _ w, w, in_between 1 2 _ f.interpretation, m);
      whole = rw n f.whole;
      points = f.points ∙ sym (points-listed template s w ∙ ap (sum_of (base_end template) (list_width s) s) n);
    }

pub all-fits : (template : Template) (s : List ℕ) → NoList template s ⊎ (AList 31 64 35 template s ⊎ AList 35 68 31 template s) → FitTogether template s
all-fits template s (inl f) = no-list-fits template s f
all-fits template s (inr (inl f)) =
    let m = in-missing 31 64 35 s (f.missing, f.increment-missing, f.count) in
    list-fits 31 64 35 template s (rw m) (count-i template s (width-listed _ f.width) f.missing) f
all-fits template s (inr (inr f)) =
    let m = in-missing 35 68 31 s (f.missing, f.increment-missing, f.count) in
    list-fits 35 68 31 template s (rw m (or-true (missing_with 31 64 35 s))) (count-j template s (width-listed _ f.width) f.count) f

pub follows-accepted : (template : Template) (s : List ℕ) → Follows₃ template s → outcome₃ s ≡ read (values₃ template s)
unfolding outcome₃ as_template NoneHold AllAllowed placed grid_head counts corners
follows-accepted template s f =
    let fit = all-fits template s f.list in
    let source : be_at s 6 1 ≤ 0 = omega (arith, f.source) in
    let number : be_at s 13 2 ≤ 3 = rw f.names (number-up-to-3 template) in
    let in_head : AllAllowed (after 0 grid_head) s = search (in_between 0 0 _ (omega arith, source), fit.width, in_between 0 2 _ (omega arith, fit.interpretation)) in
    let in-counts : AllAllowed (after 30 counts) s = search (differs-test _ _ f.ni, differs-test _ _ f.nj, differs-test _ _ f.subdivisions) in
    let in-corners : AllAllowed (after 46 corners) s = search (differs-test _ _ f.la1, differs-test _ _ f.lo1, differs-test _ _ f.la2, differs-test _ _ f.lo2) in
    let fine =
    block-by-block-allowed template (list_octets s) s in_head in-counts in-corners (in-poles template s f.poles)
    in
    let headed : Headed 3 s = record { long = omega (arith, base-between template); small = f.small; says-length = f.says-length; says-number = f.says-number } in
    let listed = none_last 3 (reason 6 (ltb 3 (be_at s 13 2)) ∷ []) (as_template (template_named s) s) (le-ltb _ _ number, tt) in
    let fits : Fits (base_end template) (bad_place (after 0 (fields₃ template (list_octets s))) s) (disagreement s) (total template s) s = record { enough = omega (arith, fit.whole); in-range = none-bad _ s fine; own-kept = rw fit.agree; whole = fit.whole } in
    opening-last 3 s _ 14 headed (omega (arith, base-between template))
    ∙ listed
    ∙ ap (λ (t : Template). as_template t s) (names-it template s f)
    ∙ template-last 3 s _ _ _ _ _ fits
    ∙ none_last 3 (points_reasons template s) (read (values₃ template s)) (same_test _ _ fit.points, tt)

pub accepted-exactly-when : (s : List ℕ) → ((vs : List Value) × (outcome₃ s ≡ read vs)) ↔ ((template : Template) × Follows₃ template s)
accepted-exactly-when s = (
  (λ a. let f = accepted-follows s a.0 a.1 in (f.0, f.1)),
  (λ f. (values₃ f.0 s, follows-accepted f.0 s f.1)),
)
