-- Any two answers that `read`'s contract allows for a message are one answer, and it is Ok exactly when the message follows.
-- Assumes nothing.
use Prim.Native.Nat.{ℕ}
use mathlib.Core.Path.{◌≡◌, refl, sym, ap, ◌∙◌}
use mathlib.Core.Logic.{◌↔◌}
use mathlib.Core.List.{List}
use Rattle.std.specs.Prelude.{Result, Ok, Err}
use Rattle.layout.specs.declared.Refusal.{Refusal}
use Rattle.message.specs.declared.Fields.{Fields}
use Rattle.message.specs.Walk.{Cut, told}
use Rattle.message.specs.Grammar.{FollowsMessage}
use Rattle.message.specs.Messages.{read_message}
use Rattle.message.proofs.AcceptedExactlyWhen.{accepted-exactly-when}
use Rattle.message.proofs.RefusalNumbers.{accepted-is-0, refused-some}

-- `told` alone has no left inverse: a refusal of zeros and no fields tell the same. Of a message there is no such answer (`refused-some`).
none-both : (m : List ℕ) (x : Refusal) (f : Fields) → told (Err x) ≡ read_message m → told (Ok f) ≡ read_message m → ⊥
none-both m x f p q = refused-some m x p (ap (λ (c : Cut). c.refusal.number) (p ∙ sym q))

pub determined : (m : List ℕ) (a b : Result Fields Refusal) → told a ≡ read_message m → told b ≡ read_message m → a ≡ b
determined m (Err x) (Err y) p q = ap (λ (c : Cut). Err c.refusal) (p ∙ sym q)
determined m (Err x) (Ok g) p q = absurd (none-both m x g p q)
determined m (Ok f) (Err y) p q = absurd (none-both m y f q p)
determined m (Ok f) (Ok g) p q =
    let e = p ∙ sym q in
    let count = ap (λ (c : Cut). c.count) e in
    let fields = ap (λ (c : Cut). c.fields) e in
    λ i. Ok (record { count = count i; fields = fields i })

-- an answer is Ok exactly where its refusal has the number 0
ok-is-0 : (m : List ℕ) (r : Result Fields Refusal) → told r ≡ read_message m → ((f : Fields) × (r ≡ Ok f)) ↔ ((told r).refusal.number ≡ 0)
ok-is-0 m (Ok f) e = (λ y. refl, λ z. (f, refl))
ok-is-0 m (Err x) e =
    (λ y. ap (λ (r : Result Fields Refusal). (told r).refusal.number) y.1, λ z. absurd (refused-some m x e z))

pub ok-exactly-when : (m : List ℕ) (r : Result Fields Refusal) → told r ≡ read_message m → ((f : Fields) × (r ≡ Ok f)) ↔ FollowsMessage m
ok-exactly-when m r e =
    let number = ap (λ (c : Cut). c.refusal.number) e in
    let ok = ok-is-0 m r e in
    let zero = accepted-is-0 m in
    let exactly = accepted-exactly-when m in
    (λ y. exactly.0 (zero.1 (sym number ∙ ok.0 y)), λ x. ok.1 (number ∙ zero.0 (exactly.1 x)))
