-- `walk_sections`: from section to section, each judged by those before it.
-- Assumes nothing.
use Prim.Native.Nat.{ℕ, ◌-◌, ◌<◌}
use mathlib.Core.List.{List}
use native.Mathlib.Omega.{arith}
use mathlib.Core.Path.{◌≡◌, ap, sym, ◌∙◌}
use lib.ListN.{length}
use borrow.Author.Rules.{rules}
use borrow.Author.Tests.{eq-eqb, ne_eqb}
use Rattle.std.specs.Prelude.{Ok}
use Rattle.std.proofs.lemmas.Result.{err_from_is_err_and}
use Rattle.layout.specs.Outcomes.{Check}
use Rattle.cutting.proofs.Sections.{EndsAfter, stands-after}
use Rattle.message.specs.Walk.{number_in, section_refusal, refused_with, unless_refused, told}
use Rattle.message.proofs.Clear.{clear}
use Rattle.message.proofs.Walks.{walk-on, walk-stopped, walk_refused, walk_end}
use Rattle.message.proofs.walk_sections.Goals as goal

shorter : (body : List ℕ) (at end : ℕ) → EndsAfter body at end → length body - end < length body - at
shorter body at end s = omega (arith, s.later, s.inside)

-- what is told of the section that is lent is so of the section that it is
is-told : {c : Check} (last count : ℕ) {x y : List ℕ} → c ≡ section_refusal last count x → x ≡ y → section_refusal last count y ≡ c
is-told last count e p = sym (e ∙ ap (section_refusal last count) p)

pub loop-at-init : goal.loop-at-init
loop-at-init c = simp (c.no_sections-force.ensures, c.no_fields-found.ensures)

pub returns-in_default : goal.returns-in_default
returns-in_default c =
    let a = c.args in
    ap refused_with c.of.ensures
    ∙ walk-stopped a.body.now a.right _ c.loop-at.at c.loop-at-test.true (sym c.end_after.ensures ∙ c.in_default.is)
    ∙ c.loop-at.invariant

pub returns-in_err-check_section : goal.returns-in_err-check_section
returns-in_err-check_section c =
    let a = c.args in
    let e = err_from_is_err_and c.from_residual.result c.from_residual.ensures.1 in
    let there = stands-after a.body.now c.loop-at.at _ (sym c.end_after.ensures ∙ c.in-Some.is) in
    rw (e.1, e.2) (walk_refused a.body.now a.right _ c.loop-at.at _ there _ (is-told _ _ c.in_err-check_section.ensures c.stretch-section.ensures) ∙ c.loop-at.invariant)

pub overflow_sub-length : goal.overflow_sub-length
overflow_sub-length c =
    let there = stands-after c.args.body.now c.loop-at.at _ (sym c.end_after.ensures ∙ c.in-Some.is) in
    omega (arith, there.later)

pub offset_bounds-found-found : goal.offset_bounds-found-found
offset_bounds-found-found c =
    let room = (clear _ _ _ (is-told c.loop-at.last c.loop-at.found.count c.in_ok-check_section.ensures c.stretch-section.ensures)).room in
    search (rules, room)

pub bounds-found-found : goal.bounds-found-found
bounds-found-found c = (clear _ _ _ (is-told c.loop-at.last c.loop-at.found.count c.in_ok-check_section.ensures c.stretch-section.ensures)).room

pub overflow_add-found : goal.overflow_add-found
overflow_add-found c =
    let room = (clear _ _ _ (is-told c.loop-at.last c.loop-at.found.count c.in_ok-check_section.ensures c.stretch-section.ensures)).room in
    search (rules, room)

pub loop-at-smaller-then-last-eq-DATA : goal.loop-at-smaller-then-last-eq-DATA
loop-at-smaller-then-last-eq-DATA c =
    let there = stands-after c.args.body.now c.loop-at.at _ (sym c.end_after.ensures ∙ c.in-Some.is) in
    shorter c.args.body.now c.loop-at.at _ there

pub loop-at-preserved-then-last-eq-DATA : goal.loop-at-preserved-then-last-eq-DATA
loop-at-preserved-then-last-eq-DATA c =
    let there = stands-after c.args.body.now c.loop-at.at _ (sym c.end_after.ensures ∙ c.in-Some.is) in
    let cleared = is-told c.loop-at.last c.loop-at.found.count c.in_ok-check_section.ensures c.stretch-section.ensures in
    let met = c.u8_at-last.ensures ∙ ap number_in c.stretch-section.ensures in
    walk-on c.args.body.now c.args.right _ c.loop-at.at _ there _ _ _ met c.in_force-force.ensures (rw (eq-eqb _ 7 c.if-last-eq-DATA.true)) cleared ∙ c.loop-at.invariant

pub loop-at-smaller : goal.loop-at-smaller
loop-at-smaller c =
    let there = stands-after c.args.body.now c.loop-at.at _ (sym c.end_after.ensures ∙ c.in-Some.is) in
    shorter c.args.body.now c.loop-at.at _ there

pub loop-at-preserved : goal.loop-at-preserved
loop-at-preserved c =
    let there = stands-after c.args.body.now c.loop-at.at _ (sym c.end_after.ensures ∙ c.in-Some.is) in
    let cleared = is-told c.loop-at.last c.loop-at.found.count c.in_ok-check_section.ensures c.stretch-section.ensures in
    let met = c.u8_at-last.ensures ∙ ap number_in c.stretch-section.ensures in
    walk-on c.args.body.now c.args.right _ c.loop-at.at _ there _ _ _ met c.in_force-force.ensures (rw (ne_eqb _ 7 c.if-last-eq-DATA.false)) cleared ∙ c.loop-at.invariant

pub returns-in_err-check_end : goal.returns-in_err-check_end
returns-in_err-check_end c =
    let e = err_from_is_err_and c.from_residual-in_err-check_end.result c.from_residual-in_err-check_end.ensures.1 in
    rw (e.1, e.2)
    (ap (λ (x : Check). unless_refused x (told (Ok c.loop-at.found))) c.in_err-check_end.ensures
    ∙ walk_end c.args.body.now c.args.right (record { last = c.loop-at.last; force = c.loop-at.force; found = told (Ok c.loop-at.found) }) c.loop-at.at c.loop-at-test.false
    ∙ c.loop-at.invariant)

pub returns : goal.returns
returns c =
    ap (λ (x : Check). unless_refused x (told (Ok c.loop-at.found))) c.in_ok-check_end.ensures
    ∙ walk_end c.args.body.now c.args.right (record { last = c.loop-at.last; force = c.loop-at.force; found = told (Ok c.loop-at.found) }) c.loop-at.at c.loop-at-test.false
    ∙ c.loop-at.invariant
