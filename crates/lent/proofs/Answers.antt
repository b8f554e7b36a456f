-- The answer and what was lent: what is left where there is room and where there is not.
-- Assumes nothing.
use Prim.Native.Nat.{ℕ}
use mathlib.Core.Path.{◌≡◌, refl, sym, ap, ◌∙◌}
use mathlib.Core.Logic.{◌↔◌}
use mathlib.Core.Bool.{Bool, true, false, cond}
use mathlib.Core.List.{List}
use lib.Dec.{leb}
use lib.ListN.{length}
use Rattle.lent.specs.Lent.{Done, done, over, if_room, Untouched}
use Rattle.lent.specs.Written.{Written, written}

-- ---- any two answers to the same are one, and so is what they leave

pub one-done : {A B : Type 0} (x : Done A B) (a b : A) (after later : B) → done a after ≡ x → done b later ≡ x → (a ≡ b) × (after ≡ later)
one-done {A} {B} x a b after later p q = let e = p ∙ sym q in (ap (λ (x : Done A B). x.answer) e, ap (λ (x : Done A B). x.lent) e)

pub one_written : (x : Written) (a b : ℕ) (after later : List ℕ) → written after a ≡ x → written later b ≡ x → (a ≡ b) × (after ≡ later)
one_written x a b after later p q = let e = p ∙ sym q in (ap (λ (x : Written). x.at) e, ap (λ (x : Written). x.octets) e)

-- ---- room

module _ {A B : Type 0} (fine refusal : A) where
  -- a refusal leaves what was there
  pub room-leaves : (t : Bool) (after before : B) → Untouched fine before (if_room fine refusal t after before)
  room-leaves true after before h = absurd (h refl)
  room-leaves false after before h = refl

  module _ (differ : refusal ≡ fine → ⊥) where
    -- where the answer is that it is written there was room, and it is what is left
    pub room-left : (t : Bool) (after before : B) → (if_room fine refusal t after before).answer ≡ fine → (t ≡ true) × ((if_room fine refusal t after before).lent ≡ after)
    room-left true after before e = (refl, refl)
    room-left false after before e = absurd (differ e)

    pub room-lent : (t : Bool) (after before later : B) → done fine later ≡ if_room fine refusal t after before → later ≡ after
    room-lent t after before later e = ap (λ (x : Done A B). x.lent) e ∙ (room-left t after before (sym (ap (λ (x : Done A B). x.answer) e))).1

    pub room-exactly : {R : Type 0} (t : Bool) (after before : B) → (t ≡ true) ↔ R → ((if_room fine refusal t after before).answer ≡ fine) ↔ R
    room-exactly t after before r = ((λ e. r.0 (room-left t after before e).0), (λ x. ap (λ (u : Bool). (if_room fine refusal u after before).answer) (r.1 x)))

-- what `numbers` says of a row: the numbers stand there, or all is as it was
module _ (row ns : List ℕ) {later : List ℕ} {r : Bool} (e : done r later ≡ if_room true false (leb (length ns) (length row)) (over row ns) row) where
  pub room-said : (u : Bool) → r ≡ u → (leb (length ns) (length row) ≡ u) × (later ≡ cond u (over row ns) row)
  room-said u h = by (leb (length ns) (length row)) (ap (λ (t : Bool). done t later) (sym h) ∙ e)
    where
      by : (t : Bool) → done u later ≡ if_room true false t (over row ns) row → (t ≡ u) × (later ≡ cond u (over row ns) row)
      by true f = let t : u ≡ true = ap (λ (x : Done Bool (List ℕ)). x.answer) f in rw t (refl, ap (λ (x : Done Bool (List ℕ)). x.lent) f)
      by false f = let t : u ≡ false = ap (λ (x : Done Bool (List ℕ)). x.answer) f in rw t (refl, ap (λ (x : Done Bool (List ℕ)). x.lent) f)
