-- `tell`: where there is room, the spans and the count.
-- Assumes nothing.
use native.Mathlib.Omega.{arith}
use mathlib.Core.Path.{ap, ap₂}
use mathlib.Core.Bool.{true, false}
use mathlib.Core.List.{[], ◌∷◌}
use borrow.Author.Tests.{lt-leb, le-leb}
use Rattle.lent.specs.Lent.{done_both}
use Rattle.lent.proofs.Answers.{room-said}
use Rattle.skogmund.specs.Entries.{no_room}
use Rattle.skogmund.proofs.messages.tell.Goals as goal

pub returns-then-spans-lt-SPANS : goal.returns-then-spans-lt-SPANS
returns-then-spans-lt-SPANS c = rw (lt-leb _ _ c.if-spans-lt-SPANS.true)

pub returns-then-not-numbers : goal.returns-then-not-numbers
returns-then-not-numbers c =
    let a = c.args in
    let h = room-said a.count.now (a.fields.count ∷ []) c.numbers.ensures false (c.if-not-numbers.true) in
    rw (le-leb _ _ c.if-spans-lt-SPANS.false, h.0) (ap (done_both no_room a.spans.now) h.1)

pub write_spans-requires : goal.write_spans-requires
write_spans-requires c = (c.requires, omega (arith, c.if-spans-lt-SPANS.false))

pub returns : goal.returns
returns c =
    let a = c.args in
    let h = room-said a.count.now (a.fields.count ∷ []) c.numbers.ensures true (c.if-not-numbers.false) in
    rw (le-leb _ _ c.if-spans-lt-SPANS.false, h.0) (ap₂ (done_both 0) c.write_spans.ensures h.1)
