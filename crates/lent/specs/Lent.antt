-- What is answered, and what is then in the memory that was lent to write: one equation, so that a contract which states it leaves nothing
-- open, refusals included.
-- Assumes nothing.
use Rattle.std.specs.Prelude.{◌≡◌, Bool, cond, List, ◌∷◌, ◌++◌, ℤ, pos, length, drop}

-- the answer, and what was lent as it is afterwards: one buffer, or a pair of them
pub record Done (A B : Type 0) : Type 0 where
  pub answer : A
  pub lent : B

abbrev pub done : {A B : Type 0} → A → B → Done A B
done answer lent = record { answer = answer; lent = lent }

abbrev pub done_both : {A B C : Type 0} → A → B → C → Done A (B × C)
done_both answer one other = done answer (one, other)

-- values at the start of a buffer, and behind them what was there before
abbrev pub over : {A : Type 0} → List A → List A → List A
over places vs = vs ++ drop (length vs) places

-- their count and the numbers, at the start of a row
unfoldable pub with_count : List ℤ → List ℤ → List ℤ
with_count numbers row = over row (pos (length numbers) ∷ numbers)

-- where there is room, the answer that it is written, and what is; else a refusal, and what was there before
abbrev pub if_room : {A B : Type 0} → A → A → Bool → B → B → Done A B
if_room fine refusal room after before = cond room (done fine after) (done refusal before)

-- any other answer than `fine` leaves what was lent as it was
abbrev pub Untouched : {A B : Type 0} → A → B → Done A B → Type 0
Untouched fine before x = (x.answer ≡ fine → ⊥) → x.lent ≡ before
