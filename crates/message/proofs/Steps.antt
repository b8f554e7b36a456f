-- A message whose frame is accepted: its sections stand in order, they are all that is there, and the last four octets are 7777.
-- Assumes nothing.
use Prim.Native.Nat.{ℕ, ◌+◌}
use native.Mathlib.Omega.{arith}
use mathlib.Core.Path.{◌≡◌, refl, subst}
use mathlib.Core.Bool.{Bool, true, false, cond}
use mathlib.Core.List.{List, [], ◌∷◌}
use lib.Dec.{eqb}
use lib.ListN.{length}
use Rattle.std.specs.Prelude.{Ok, Err}
use Rattle.layout.specs.Outcomes.{Check}
use Rattle.message.specs.declared.Sections.{Sections}
use Rattle.message.specs.Walk.{Cut}
use Rattle.message.specs.Walk.{Walk, number_in, section_refusal, one_more, with_section, taken, unless_refused, judged_in}
use Rattle.message.specs.Messages.{Accepted}
use Rattle.message.specs.FirstPlace.{Clear, fields_after}
use Rattle.message.proofs.Clear.{clear, end-clear}

-- from section to section, each may stand there, and the last is a 7
unfoldable pub Steps : ℕ → ℕ → List (List ℕ) → Type 0
Steps last count [] = last ≡ 7
Steps last count (x ∷ xs) = Clear last count x × Steps (number_in x) (fields_after (number_in x) count) xs

-- what is accepted was refused by nothing
pub unless-accepted : (x : Check) (c : Cut) → Accepted (unless_refused x c) → (x ≡ Ok tt) × Accepted c
unless-accepted (Ok u) c a = (refl, a)
unless-accepted (Err x) c a = absurd (omega arith)

pub count-after : (t : Bool) (c : Cut) (f : Sections) → (cond t (one_more c f) c).count ≡ cond t (c.count + 1) c.count
count-after true c f = refl
count-after false c f = refl

pub record InOrder (whole right : Bool) (last count : ℕ) (xs : List (List ℕ)) : Type 0 where
  pub steps : Steps last count xs
  pub all : whole ≡ true
  pub ended : right ≡ true

pub judged-steps : (xs : List (List ℕ)) (whole right : Bool) (at : ℕ) (w : Walk) → Accepted (judged_in whole right at w xs) → InOrder whole right w.last w.found.count xs
unfolding judged_in Steps with_section
judged-steps [] true right at w a =
    let e = end-clear w.last right (unless-accepted _ _ a).0 in
    record { steps = e.0; all = refl; ended = e.1 }
judged-steps [] false right at w a = absurd (omega arith)
judged-steps (x ∷ xs) whole right at w a =
    let u = unless-accepted (section_refusal w.last w.found.count x) _ a in
    let r = judged-steps xs whole right (at + length x) (taken at w x) u.1 in
    record {
      steps = (clear _ _ x u.0, subst (λ (k : ℕ). Steps (number_in x) k xs) (count-after (eqb (number_in x) 7) w.found _) r.steps);
      all = r.all;
      ended = r.ended;
    }
