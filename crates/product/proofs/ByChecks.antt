-- The outcome of section 4 as its reader comes to it: one check after the other.
-- Assumes nothing.
use Prim.Native.Nat.{ℕ, ◌+◌}
use mathlib.Core.Path.{◌≡◌, refl, ap, ◌∙◌}
use mathlib.Core.List.{List}
use mathlib.Core.Bool.{Bool, true, false, cond, ◌&&◌}
use lib.Dec.{eqb, ltb}
use lib.ListN.{length}
use Rattle.octets.specs.Octets.{be_at}
use Rattle.layout.specs.Fields.{placed, after, not_ones}
use Rattle.layout.specs.Outcomes.{Outcome, refused, read, refused_by, first_refusal, and_check, if_allowed, all_allowed, opening_reasons, total_reasons}
use Rattle.layout.specs.Time.{time}
use Rattle.layout.specs.declared.Refusal.{Refusal}
use Rattle.layout.proofs.Blocks.{allowed_moved}
use Rattle.layout.proofs.Outcomes.{check_then, first-check, template_checks}
use Rattle.std.specs.Prelude.{Option, Some, None, Result, Ok, Err}
use Rattle.product.specs.Blocks.{interval}
use Rattle.product.specs.Templates.{listed_or_6, template_of, total, ranges_at, lack_of_ranges, fields_in, total_in, values₄}
use Rattle.product.specs.Section4.{as_template, by_template, outcome₄}
use Rattle.product.specs.declared.templates.PartKind.{PartKind}
use Rattle.product.specs.declared.templates.Template.{Template}

-- 8 in the end of an interval: its year, and then its time
pub end_by_checks : (end : ℕ) (s : List ℕ) → all_allowed 4 (after end interval) s ≡ and_check (if_allowed 4 (end + 1) (not_ones 2 (be_at s (end + 1) 2))) (all_allowed 4 (after (end + 2) time) s)
unfolding all_allowed and_check placed interval time
end_by_checks end s = rw (allowed_moved 4 end 2 time s)

-- once the template is known: 7, 8, 9 where there are time ranges and n is 0, and the total
pub template_by_checks : (kind : PartKind) (timed : Bool) (s : List ℕ) → as_template kind timed s ≡ cond (ltb (length s) (total kind timed 1 0 0)) (refused 7 4 0)
    (check_then (all_allowed 4 (after 0 (fields_in kind timed s)) s)
    (cond (timed && eqb (ranges_at kind timed s) 0) (refused 9 4 0)
    (check_then (first_refusal 4 (total_reasons (total_in kind timed s) s)) (read (values₄ kind timed s)))))
unfolding as_template
template_by_checks kind timed s =
    template_checks 4 (total kind timed 1 0 0) (lack_of_ranges timed (ranges_at kind timed s)) (total_in kind timed s) _ s _
    ∙ ap (λ (o : Outcome). cond (ltb (length s) (total kind timed 1 0 0)) (refused 7 4 0) (check_then (all_allowed 4 (after 0 (fields_in kind timed s)) s) o)) (by-own (timed && eqb (ranges_at kind timed s) 0) _)
  where
    by-own : (t : Bool) (o : Outcome) → let own = cond {A = ℕ} t 9 0 in cond (eqb own 0) o (refused own 4 0) ≡ cond t (refused 9 4 0) o
    by-own true o = refl
    by-own false o = refl

-- what a template or 6 comes to
abbrev pub then_read : Result Template Refusal → List ℕ → Outcome
then_read (Err x) s = refused_by x
then_read (Ok t) s = as_template t.kind t.timed s

-- 1 to 5, and 6
pub section4_by_checks : (s : List ℕ) → outcome₄ s ≡ check_then (first_refusal 4 (opening_reasons 4 9 s)) (then_read (listed_or_6 (template_of (be_at s 8 2))) s)
unfolding outcome₄ by_template
section4_by_checks s =
    first-check 4 (opening_reasons 4 9 s) _ ∙ ap (check_then (first_refusal 4 (opening_reasons 4 9 s))) (by-listed (template_of (be_at s 8 2)))
  where
    by-listed : (o : Option Template) → by_template o s ≡ then_read (listed_or_6 o) s
    by-listed None = refl
    by-listed (Some t) = refl
