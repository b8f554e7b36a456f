-- `check_fields`: from field to field, up to the last or to the first that is refused.
-- Assumes nothing.
use native.Mathlib.Omega.{arith}
use mathlib.Core.Path.{sym, ap, refl, ◌∙◌}
use mathlib.Core.List.{List, map}
use Rattle.std.specs.Prelude.{Ok}
use Rattle.std.proofs.lemmas.Result.{err_from_is_err_and}
use Rattle.message.specs.declared.Sections.{Sections}
use Rattle.message.specs.Walk.{told}
use Rattle.message.specs.Messages.{shown_in, fields_read}
use Rattle.message.proofs.Reading.{opening-read, all_read, next-read, next-refused}
use Rattle.message.proofs.check_fields.Goals as goal

pub loop-sections-init : goal.loop-sections-init
loop-sections-init c = (rw c.no_sections-before.ensures (record { one = λ h. absurd (omega arith); three = λ h. absurd (omega arith) }), refl)

pub check_field-requires : goal.check_field-requires
check_field-requires c = c.loop-sections.invariant.0

pub returns-in_err-check_field : goal.returns-in_err-check_field
returns-in_err-check_field c =
    let a = c.args in
    let e = err_from_is_err_and c.from_residual.result c.from_residual.ensures.1 in
    rw (e.1, e.2)
    (next-refused a.message.now (told (Ok a.fields)) _ c.loop-sections.sections-index _ c.loop-sections-test.true _ c.in_err-check_field.ensures
    ∙ c.loop-sections.invariant.1
    ∙ ap (λ (fs : List Sections). fields_read (told (Ok a.fields)) (map (shown_in a.message.now) fs)) c.found-sections-items.ensures)

pub loop-sections-preserved : goal.loop-sections-preserved
loop-sections-preserved c = (
  opening-read _ _ (sym c.in_ok-check_field.ensures),
  next-read c.args.message.now (told (Ok c.args.fields)) _ c.loop-sections.sections-index _ c.loop-sections-test.true c.in_ok-check_field.ensures ∙ c.loop-sections.invariant.1,
)

pub returns : goal.returns
unfolding fields_read
returns c =
    let a = c.args in
    sym (ap (fields_read (told (Ok a.fields))) (all_read a.message.now _ c.loop-sections.sections-index c.loop-sections-test.false))
    ∙ c.loop-sections.invariant.1
    ∙ ap (λ (fs : List Sections). fields_read (told (Ok a.fields)) (map (shown_in a.message.now) fs)) c.found-sections-items.ensures
