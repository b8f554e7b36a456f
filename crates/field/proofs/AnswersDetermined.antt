-- Any two answers that `read`'s contract allows for five sections are one answer.
-- Assumes nothing.
use Prim.Native.Nat.{ℕ}
use native.Mathlib.Omega.{arith}
use mathlib.Core.Path.{◌≡◌, sym, ◌∙◌}
use mathlib.Core.List.{List}
use Rattle.identification.proofs.AnswersDetermined.{same-record as same-record₁}
use Rattle.grid.proofs.AnswersDetermined.{same-record as same-record₃}
use Rattle.product.proofs.AnswersDetermined.{same-record as same-record₄}
use Rattle.packing.proofs.AnswersDetermined.{same-record₅}
use Rattle.field.specs.Field.{told, field_outcome}
use Rattle.layout.specs.declared.Refusal.{Refusal}
use Rattle.field.specs.declared.WholeField.{WholeField}
use Rattle.std.specs.Prelude.{Result, Ok, Err}

same_answer : (a b : Result WholeField Refusal) → told a ≡ told b → a ≡ b
unfolding told
same_answer (Err x) (Err y) e =
    let number : x.number ≡ y.number = cc in
    let section : x.section ≡ y.section = cc in
    let place : x.place ≡ y.place = cc in
    λ i. Err (record { number = number i; section = section i; place = place i })
same_answer (Err x) (Ok y) e = let z : ◌≡◌ {A = ℕ} 0 1 = cc in absurd (omega arith)
same_answer (Ok x) (Err y) e = let z : ◌≡◌ {A = ℕ} 0 1 = cc in absurd (omega arith)
same_answer (Ok x) (Ok y) e =
    let one = same-record₁ x.identification y.identification (cc) in
    let three = same-record₃ x.grid y.grid (cc) in
    let four = same-record₄ x.product y.product (cc) in
    let five = same-record₅ x.packing y.packing (cc) in
    λ i. Ok (record { identification = one i; grid = three i; product = four i; packing = five i })

pub determined : (s1 s3 s4 s5 s7 : List ℕ) (a b : Result WholeField Refusal) → told a ≡ field_outcome s1 s3 s4 s5 s7 → told b ≡ field_outcome s1 s3 s4 s5 s7 → a ≡ b
determined s1 s3 s4 s5 s7 a b p q = same_answer a b (p ∙ sym q)
