-- A list is summed up number by number, as it is cut into them.
-- Assumes nothing.
use Prim.Native.Nat.{ℕ, zero, suc, ◌/◌, ◌+◌, ◌-◌, ◌*◌, ◌^◌, ◌≤◌, ◌<◌}
use native.Mathlib.Nat.{mul-div_cancel_left}
use native.Mathlib.Omega.{arith}
use mathlib.Core.Path.{◌≡◌, refl, ap, sym, ◌∙◌}
use mathlib.Core.Bool.{Bool, true, false, true≢false, cond}
use mathlib.Core.List.{List, ◌++◌}
use lib.ListN.{length, take, drop, length-drop, length-append}
use lib.Dec.{eqb}
use lib.Seq.{take_all, drop-append_seam}
use borrow.Author.Tests.{ne_eqb, eqb-false}
use Rattle.std.proofs.Common.{add-one}
use Rattle.std.proofs.lemmas.List.{drop-drop}
use Rattle.octets.specs.Octets.{be_at}
use Rattle.octets.proofs.Laws.{be_at-drop, be_at-ahead}
use Rattle.grid.specs.Templates.{base_end, list_width, list_count, list_octets, total}
use Rattle.grid.specs.Agreement.{agreed}
use Rattle.grid.specs.Points.{sum_of, points_without_list, points_of}
use Rattle.grid.specs.declared.templates.Template.{Template}
use Rattle.grid.proofs.Widths.{no_list, agreed_list}

-- so many of its numbers are summed up, and so much of it is left
pub record Summed (width : ℕ) (list left : List ℕ) (k sum : ℕ) : Type 0 where
  pub within : width * k ≤ length list
  pub behind : left ≡ drop (width * k) list
  pub small : sum ≤ 4294967295 * k
  pub so-far : sum ≡ sum_of 0 width list k

pub none_summed : (width : ℕ) (list left : List ℕ) → left ≡ list → Summed width list left 0 0
unfolding sum_of
none_summed width list left all =
    let none : width * 0 ≡ 0 = omega arith in
    record { within = omega arith; behind = rw none all; small = omega arith; so-far = refl }

pub one_more : (width : ℕ) (list x rest : List ℕ) (k sum : ℕ) → Summed width list (x ++ rest) k sum → length x ≡ width → be_at x 1 width < 2 ^ 32 → Summed width list rest (k + 1) (sum + be_at x 1 width)
unfolding sum_of
one_more width list x rest k sum s whole small =
    let left : length list - width * k ≡ length x + length rest = sym (length-drop (width * k) list) ∙ ap length (sym s.behind) ∙ length-append x rest in
    let end : width * (k + 1) ≡ width * k + length x = omega arith in
    let here : be_at x 1 width ≡ be_at list (0 + 1 + width * k) width =
    sym (be_at-ahead x rest 1 width (omega arith)) ∙ ap (λ (l : List ℕ). be_at l 1 width) s.behind ∙ be_at-drop list (width * k) 1 width (omega arith)
    in
    let within : width * k ≤ length list = s.within in
    record {
      within = omega arith;
      behind = rw end (sym (sym (drop-drop (length x) (width * k) list) ∙ ap (drop (length x)) (sym s.behind) ∙ drop-append_seam x rest));
      small = omega (arith, s.small);
      so-far = rw add-one (λ i. s.so-far i + here i);
    }

-- ---- the points

-- a list is a section of its own to those who count its octets
pub sum-dropped : (end width count : ℕ) (s : List ℕ) → sum_of 0 width (drop end s) count ≡ sum_of end width s count
unfolding sum_of
sum-dropped end width zero s = refl
sum-dropped end width (suc n) s =
    let at : 0 + 1 + width * n + end ≡ end + 1 + width * n = omega arith in
    let here = be_at-drop s end (0 + 1 + width * n) width (omega arith) ∙ ap (λ (k : ℕ). be_at s k width) at in
    λ i. sum-dropped end width n s i + here i

-- what is behind the base of a whole section, in numbers of so many octets as it says
pub summed : (template : Template) (s : List ℕ) (width : ℕ) → length s ≡ total template s → be_at s 11 1 ≡ width → 0 < width
    → sum_of 0 width (take (length s - base_end template) (drop (base_end template) s)) (length (take (length s - base_end template) (drop (base_end template) s)) / width) ≡ points_of template s
unfolding points_of
summed template s width whole names some =
    let all : take (length s - base_end template) (drop (base_end template) s) ≡ drop (base_end template) s =
    take_all (length s - base_end template) (drop (base_end template) s) (omega (arith, length-drop (base_end template) s))
    in
    let octets : list_octets s ≡ width * list_count s = rw names in
    let behind : length (drop (base_end template) s) ≡ width * list_count s = length-drop (base_end template) s ∙ omega arith in
    let counted : length (drop (base_end template) s) / width ≡ list_count s = ap (λ (n : ℕ). n / width) behind ∙ mul-div_cancel_left (list_count s) some in
    rw (all, counted, sum-dropped, names, ne_eqb width 0 (λ e. omega arith))

pub not_summed : (template : Template) (s : List ℕ) → agreed s ≡ true → (be_at s 11 1 ≡ 1 → ⊥) → (be_at s 11 1 ≡ 2 → ⊥) → (be_at s 11 1 ≡ 4 → ⊥) → points_without_list s ≡ points_of template s
unfolding points_of
not_summed template s agree a b c = by (eqb (list_width s) 0) refl
  where
    by : (t : Bool) → eqb (list_width s) 0 ≡ t → points_without_list s ≡ cond t (points_without_list s) (sum_of (base_end template) (list_width s) s (list_count s))
    by true h = refl
    by false h = absurd (true≢false (sym (agreed_list s agree (eqb-false _ _ h)) ∙ no_list _ a b c))
