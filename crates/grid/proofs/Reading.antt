-- A section 3 is read in the steps in which a program reads it: the opening, the template, 7, the fields, 10, the total, the points.
-- Assumes nothing.
use Prim.Native.Nat.{ℕ, zero, suc}
use native.Mathlib.Omega.{arith}
use mathlib.Core.Path.{◌≡◌, refl, ap, ◌∙◌}
use mathlib.Core.Bool.{Bool, true, false, not, cond}
use mathlib.Core.List.{List, [], ◌∷◌, ◌++◌}
use lib.Dec.{eqb, ltb}
use lib.ListN.{length, drop}
use borrow.Author.Tests.{lt-ltb}
use Rattle.std.specs.Prelude.{Ok, Err}
use Rattle.octets.specs.Octets.{be_at}
use Rattle.layout.specs.Fields.{plain, between, placed, after, bad_place, values_of}
use Rattle.layout.specs.Outcomes.{Outcome, refused, read, refusal, reason, first_of, first_refusal, opening_reasons, total_reasons, template_reasons, Check, and_check, if_allowed, all_allowed}
use Rattle.layout.proofs.Outcomes.{check_then, then_by, first-check, template_checks}
use Rattle.layout.proofs.Blocks.{values-drop}
use Rattle.grid.specs.Blocks.{width_allowed, grid_head, common, poles}
use Rattle.grid.specs.Templates.{template_numbered, listed_template, fields₃, base_end, list_octets, total, values₃}
use Rattle.grid.specs.Agreement.{agreed, disagreement}
use Rattle.grid.specs.Points.{points_reasons}
use Rattle.grid.specs.Section3.{as_template, outcome₃}
use Rattle.grid.specs.declared.templates.Template.{Template}
use Rattle.grid.proofs.FieldsByBlock.{values-by-block, checks-by-block}

-- ---- the template

pub unlisted : (n : ℕ) → (n ≡ 0 → ⊥) → (n ≡ 1 → ⊥) → (n ≡ 2 → ⊥) → (n ≡ 3 → ⊥) → listed_template n ≡ Err (refusal 6 3 0)
unfolding listed_template
unlisted zero a b c d = absurd (a refl)
unlisted (suc zero) a b c d = absurd (b refl)
unlisted (suc (suc zero)) a b c d = absurd (c refl)
unlisted (suc (suc (suc zero))) a b c d = absurd (d refl)
unlisted (suc (suc (suc (suc n)))) a b c d = refl

pub listed_numbered : (n : ℕ) (template : Template) → listed_template n ≡ Ok template → template ≡ template_numbered n
unfolding listed_template template_numbered
listed_numbered zero template e = cc
listed_numbered (suc zero) template e = cc
listed_numbered (suc (suc zero)) template e = cc
listed_numbered (suc (suc (suc zero))) template e = cc
listed_numbered (suc (suc (suc (suc n)))) template e = cc

by-number : (n : ℕ) (go : Template → Outcome) → first_of 3 (reason 6 (ltb 3 n) ∷ []) (go (template_numbered n)) ≡ then_by (listed_template n) go
unfolding first_of listed_template template_numbered
by-number zero go = refl
by-number (suc zero) go = refl
by-number (suc (suc zero)) go = refl
by-number (suc (suc (suc zero))) go = refl
by-number (suc (suc (suc (suc n)))) go = rw (lt-ltb 3 (suc (suc (suc (suc n)))) (omega arith)) refl

-- ---- the fields: source, width and interpretation of the list, what is the same in all templates, and the poles

pub fields_checked : (template : Template) (n : ℕ) (s : List ℕ) → all_allowed 3 (after 0 (fields₃ template n)) s ≡ and_check (if_allowed 3 6 (between 0 0 (be_at s 6 1))) (and_check (if_allowed 3 11 (width_allowed (be_at s 11 1))) (and_check (if_allowed 3 12 (between 0 2 (be_at s 12 1))) (and_check (all_allowed 3 (after 14 common) s) (all_allowed 3 (after 72 (poles template)) s))))
unfolding all_allowed and_check placed grid_head
fields_checked template n s =
    checks-by-block template n s
    ∙ in-turn (if_allowed 3 6 (between 0 0 (be_at s 6 1))) (if_allowed 3 11 (width_allowed (be_at s 11 1))) (if_allowed 3 12 (between 0 2 (be_at s 12 1))) _
  where
    in-turn : (a b c d : Check) → and_check (and_check a (and_check b (and_check c (Ok tt)))) d ≡ and_check a (and_check b (and_check c d))
    in-turn (Err x) b c d = refl
    in-turn (Ok t) (Err x) c d = refl
    in-turn (Ok t) (Ok u) (Err x) d = refl
    in-turn (Ok t) (Ok u) (Ok v) d = refl

-- ---- the values: octets 1 to 14, and from octet 15 on what the readers of the template are handed

pub values_by_part : (template : Template) (s : List ℕ) → values₃ template s
    ≡ plain (be_at s 1 4)
    ∷ plain (be_at s 5 1)
    ∷ plain (be_at s 6 1)
    ∷ plain (be_at s 7 4)
    ∷ plain (be_at s 11 1)
    ∷ plain (be_at s 12 1)
    ∷ plain (be_at s 13 2)
    ∷ (values_of (after 0 common) (drop 14 s) ++ values_of (after 58 (poles template)) (drop 14 s))
unfolding values₃ values_of placed grid_head
values_by_part template s =
    rw (values-drop 0 14 common s, values-drop 58 14 (poles template) s) (values-by-block template (list_octets s) s)

-- ---- the steps

by-own : (t : Bool) (o : Outcome) → cond (eqb (cond (not t) 10 0) 0) o (refused (cond (not t) 10 0) 3 0) ≡ cond t o (refused 10 3 0)
by-own true o = refl
by-own false o = refl

by-fields : (template : Template) (s : List ℕ) → as_template template s ≡ cond (ltb (length s) (base_end template)) (refused 7 3 0) (check_then (all_allowed 3 (after 0 (fields₃ template (list_octets s))) s) (cond (agreed s) (check_then (first_refusal 3 (total_reasons (total template s) s)) (check_then (first_refusal 3 (points_reasons template s)) (read (values₃ template s)))) (refused 10 3 0)))
unfolding as_template
by-fields template s =
    let last = check_then (first_refusal 3 (points_reasons template s)) (read (values₃ template s)) in
    ap (λ (o : Outcome). first_of 3 (template_reasons (base_end template) (bad_place (after 0 (fields₃ template (list_octets s))) s) (disagreement s) (total template s) s) o) (first-check 3 (points_reasons template s) (read (values₃ template s)))
    ∙ template_checks 3 (base_end template) (disagreement s) (total template s) (fields₃ template (list_octets s)) s last
    ∙ ap (λ (o : Outcome). cond (ltb (length s) (base_end template)) (refused 7 3 0) (check_then (all_allowed 3 (after 0 (fields₃ template (list_octets s))) s) o)) (by-own (agreed s) (check_then (first_refusal 3 (total_reasons (total template s) s)) last))

pub read_in_steps : (s : List ℕ) → outcome₃ s ≡ check_then (first_refusal 3 (opening_reasons 3 14 s)) (then_by (listed_template (be_at s 13 2)) (λ t. cond (ltb (length s) (base_end t)) (refused 7 3 0) (check_then (all_allowed 3 (after 0 (fields₃ t (list_octets s))) s) (cond (agreed s) (check_then (first_refusal 3 (total_reasons (total t s) s)) (check_then (first_refusal 3 (points_reasons t s)) (read (values₃ t s)))) (refused 10 3 0)))))
unfolding outcome₃
read_in_steps s =
    first-check 3 (opening_reasons 3 14 s) _
    ∙ ap (check_then (first_refusal 3 (opening_reasons 3 14 s))) (by-number (be_at s 13 2) (λ t. as_template t s) ∙ (λ i. then_by (listed_template (be_at s 13 2)) (λ t. by-fields t s i)))
