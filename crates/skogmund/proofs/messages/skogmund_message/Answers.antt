-- `skogmund_message`: what is refused leaves both rows, and what is told of a field stands within the message.
-- Assumes nothing.
use Prim.Native.Nat.{ℕ}
use native.Mathlib.Omega.{arith}
use mathlib.Core.Path.{◌≡◌, ap, sym, subst, ◌∙◌}
use mathlib.Core.Bool.{cond}
use mathlib.Core.List.{List}
use lib.Dec.{eqb}
use borrow.Author.Tests.{ne_eqb}
use Rattle.lent.specs.Lent.{Done, done_both}
use Rattle.layout.specs.Refusals.{last_place}
use Rattle.message.specs.Walk.{Cut}
use Rattle.message.proofs.RefusalNumbers.{place-within, few-fields, refused-some}
use Rattle.message.proofs.Views.{field-low}
use Rattle.skogmund.specs.Entries.{code_of}
use Rattle.skogmund.specs.Messages.{fields_told, message_told, Tellable}
use Rattle.skogmund.proofs.messages.skogmund_message.Goals as goal

-- what C is told by what is read
abbrev told_by : List ℕ → List ℕ → Cut → Done ℕ (List ℕ × List ℕ)
told_by spans places x = cond (eqb x.refusal.number 0) (fields_told x spans places) (done_both (code_of x.refusal) spans places)

pub tell-requires : goal.tell-requires
tell-requires c = subst Tellable (sym c.in-Ok.ensures) (record { few = few-fields _; low = field-low _ (omega arith) })

pub returns-in-Ok : goal.returns-in-Ok
unfolding message_told
returns-in-Ok c = c.tell.ensures ∙ ap (told_by c.args.spans.now c.args.count.now) c.in-Ok.ensures

pub code-requires : goal.code-requires
code-requires c = omega (arith, place-within c.args.message.now, ap (λ (x : Cut). x.refusal.place) c.in-Err.ensures)

pub returns-in-Err : goal.returns-in-Err
unfolding message_told
returns-in-Err c =
    rw (c.code.ensures, ← c.in-Err.ensures, ne_eqb _ _ (refused-some _ _ c.in-Err.ensures))
