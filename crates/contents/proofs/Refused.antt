-- What is printed of a message that is not accepted: it is refused with a number, and so its one line is printed.
-- Assumes nothing.
use Prim.Native.Nat.{ℕ}
use mathlib.Core.Path.{◌≡◌, refl}
use mathlib.Core.List.{List}
use borrow.Author.Tests.{ne_eqb}
use Rattle.message.specs.Grammar.{FollowsMessage}
use Rattle.message.specs.Messages.{read_message}
use Rattle.message.proofs.AcceptedExactlyWhen.{accepted-exactly-when}
use Rattle.message.proofs.RefusalNumbers.{accepted-is-0}
use Rattle.text.specs.Text.{refused_text}
use Rattle.contents.specs.Contents.{contents_of, contents}

pub refused-told : (m : List ℕ) → (FollowsMessage m → ⊥) → contents m ≡ refused_text (read_message m).refusal
unfolding contents contents_of
refused-told m other = rw (ne_eqb (read_message m).refusal.number 0 (λ z. other ((accepted-exactly-when m).0 ((accepted-is-0 m).1 z)))) refl
