-- `tell`: in an accepted message the sections stand low enough, and a refusal has a number.
-- Assumes nothing.
use native.Mathlib.Omega.{arith}
use mathlib.Core.Path.{◌≡◌, sym, ap, subst, ◌∙◌}
use mathlib.Core.List.{List}
use Prim.Native.Nat.{ℕ, ◌<◌, ◌^◌}
use lib.ListN.{length}
use borrow.Author.Tests.{ne_eqb}
use Rattle.std.specs.Prelude.{Ok, Err}
use Rattle.layout.specs.declared.Refusal.{Refusal}
use Rattle.lent.specs.Writers.{writes}
use Rattle.text.specs.Text.{refused_text}
use Rattle.message.specs.Walk.{Cut, told, refused_with}
use Rattle.message.specs.Messages.{read_message, field_of}
use Rattle.message.specs.Places.{LowField}
use Rattle.message.specs.declared.Fields.{Fields}
use Rattle.message.proofs.RefusalNumbers.{refused-some}
use Rattle.message.proofs.Views.{field-low}
use Rattle.contents.specs.Contents.{contents, contents_of, accepted_text}
use Rattle.contents.proofs.tell.Goals as goal

refused-contents : (m : List ℕ) (x : Refusal) → told (Err x) ≡ read_message m → refused_text x ≡ contents m
unfolding contents contents_of
refused-contents m x e =
    let some : contents_of m (refused_with x) ≡ refused_text x = rw (ne_eqb _ _ (refused-some m x e)) (λ i. refused_text x) in
    sym some ∙ ap (contents_of m) e

low : (m : List ℕ) (f : Fields) → told (Ok f) ≡ read_message m → length m < 2 ^ 63 → (k : ℕ) → LowField (field_of (told (Ok f)) k)
low m f e h = subst (λ (c : Cut). (k : ℕ) → LowField (field_of c k)) (sym e) (field-low m h)

pub accepted-requires : goal.accepted-requires
accepted-requires c = low _ _ c.in-Ok.ensures (omega arith)

pub returns-in-Ok : goal.returns-in-Ok
unfolding contents contents_of
returns-in-Ok c = c.accepted.ensures ∙ ap (λ (r : Cut). writes c.args.out.now (contents_of c.args.message.now r)) c.in-Ok.ensures

pub returns-in-Err : goal.returns-in-Err
returns-in-Err c = c.refused.ensures ∙ ap (writes c.args.out.now) (refused-contents c.args.message.now _ c.in-Err.ensures)
