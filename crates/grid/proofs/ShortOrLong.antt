-- What its total decides of a section 3.
-- Assumes nothing.
use Prim.Native.Nat.{ℕ, ◌+◌, ◌<◌, ◌≤◌}
use native.Mathlib.Omega.{arith}
use mathlib.Core.Path.{◌≡◌, sym, ap, subst, ◌∙◌}
use mathlib.Core.List.{List, [], ◌∷◌}
use mathlib.Core.Bool.{not}
use lib.Dec.{ltb}
use lib.ListN.{length, drop}
use Rattle.octets.specs.Octets.{be_at}
use Rattle.layout.specs.Outcomes.{read, reason, first_of, opening_reasons}
use Rattle.layout.specs.Totals.{NoLower, ByTotal, Resized}
use Rattle.layout.proofs.Outcomes.{NoneHold, either, read_none, none_last, opening-read, opening-last, template-read}
use Rattle.layout.proofs.Resized.{number_same, resized-by-total, resized-headed}
use Rattle.layout.proofs.Totals.{AllLower, other-number, behind-lower, opening-lower, template-by-total}
use Rattle.grid.specs.Blocks.{grid_head}
use Rattle.grid.specs.Templates.{template_numbered, template_named, base_end, fields₃, list_count, list_octets, total, values₃}
use Rattle.grid.specs.Agreement.{missing_with, agreed_without_list, agreed_with_list, agreed, disagreement}
use Rattle.grid.specs.Points.{points_reasons}
use Rattle.grid.specs.Section3.{as_template, outcome₃}
use Rattle.grid.specs.Accepted.{number_of, Follows₃}
use Rattle.grid.specs.declared.templates.Template.{Template}
use Rattle.grid.proofs.RefusalNumbers.{within₃}
use Rattle.grid.proofs.AcceptedExactlyWhen.{named, names-it, follows-accepted}
use Rattle.grid.proofs.Widths.{base-between}

-- what follows the total is 13, or read
as-template : (template : Template) (s : List ℕ) → NoLower (as_template template s) → ByTotal 3 (total template s) s (as_template template s)
unfolding as_template
as-template template s =
    let lower = either (λ (n : ℕ). n < 11) (not (agreed s)) {x = 10} {y = 0} (omega arith) (omega arith) in
    template-by-total 3 (base_end template) _ (disagreement s) (total template s) s (first_of 3 (points_reasons template s) (read (values₃ template s))) lower
    (other-number 11 3 13 _ _ (λ e. omega (arith, e)) (λ e. e)) (other-number 21 3 13 _ _ (λ e. omega (arith, e)) (λ e. e))

pub short-or-long₃ : (template : Template) (s : List ℕ) → be_at s 13 2 ≡ number_of template → NoLower (outcome₃ s) → ByTotal 3 (total template s) s (outcome₃ s)
unfolding outcome₃ AllLower
short-or-long₃ template s names =
    let by = ap template_numbered names ∙ named template in
    behind-lower (ByTotal 3 (total template s) s) 3 (opening_reasons 3 14 s) _ (opening-lower 3 14 s)
    (behind-lower (ByTotal 3 (total template s) s) 3 (reason 6 (ltb 3 (be_at s 13 2)) ∷ []) (as_template (template_named s) s) (omega arith, tt)
    (rw by (as-template template s)))

-- ---- an accepted one that was clipped, but not below its base, or has got a tail

module _ (s t : List ℕ) (r : Resized s t) (in-s : 72 ≤ length s) (in-t : 72 ≤ length t) where
  same : (at width : ℕ) → 5 ≤ at → at + width ≤ 73 → be_at t at width ≡ be_at s at width
  same = number_same s t r 72 in-s in-t

  -- what says how long the list is, and what has to agree
  width_same : be_at t 11 1 ≡ be_at s 11 1
  width_same = same 11 1 (omega arith) (omega arith)

  ni-same : be_at t 31 4 ≡ be_at s 31 4
  ni-same = same 31 4 (omega arith) (omega arith)

  nj-same : be_at t 35 4 ≡ be_at s 35 4
  nj-same = same 35 4 (omega arith) (omega arith)

  list_same : list_octets t ≡ list_octets s
  unfolding list_count
  list_same = rw (width_same, ni-same, nj-same)

  agreed-same : agreed t ≡ agreed s
  unfolding agreed agreed_without_list agreed_with_list missing_with
  agreed-same = rw (width_same, ni-same, nj-same, same 12 1 (omega arith) (omega arith), same 64 4 (omega arith) (omega arith), same 68 4 (omega arith) (omega arith))

pub resized₃ : (template : Template) (s t : List ℕ) → Follows₃ template s → Resized s t → base_end template ≤ length t → length t ≤ 65536 → ByTotal 3 (length s) t (outcome₃ t)
unfolding outcome₃ as_template NoneHold fields₃ grid_head
resized₃ template s t f r enough small =
    let base = base-between template in
    let head = opening-read 3 s _ 14 _ (follows-accepted template s f) in
    let six = read_none 3 (reason 6 (ltb 3 (be_at s 13 2)) ∷ []) (as_template (template_named s) s) _ head.2 in
    let by = ap (λ (x : Template). as_template x s) (sym (names-it template s f)) ∙ six.1 in
    let fits = template-read 3 s _ _ _ _ _ _ by in
    let in-s : 72 ≤ length s = omega (arith, base, fits.0.enough) in
    let in-t : 72 ≤ length t = omega (arith, base) in
    let number = same s t r in-s in-t 13 2 (omega arith) (omega arith) in
    let behind =
    opening-last 3 t _ 14 (resized-headed 3 s t r head.0 (omega arith) small) (omega arith)
    ∙ none_last 3 (reason 6 (ltb 3 (be_at t 13 2)) ∷ []) (as_template (template_named t) t) (rw number six.0.0, tt)
    ∙ ap (λ (x : Template). as_template x t) (ap template_numbered number ∙ names-it template s f)
    in
    subst (ByTotal 3 (length s) t) (sym behind)
    (rw (agreed-same s t r in-s in-t, list_same s t r in-s in-t)
    (resized-by-total 3 (base_end template) (disagreement s) (total template s) (drop 1 (fields₃ template (list_octets s))) s t _ r fits.0 enough (within₃ template _)
    (other-number 11 3 13 _ _ (λ e. omega (arith, e)) (λ e. e)) (other-number 21 3 13 _ _ (λ e. omega (arith, e)) (λ e. e))))
