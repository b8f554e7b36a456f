-- A section that was clipped, or has got a tail: what its total decides then, once over every section with a total.
-- Assumes nothing.
use Prim.Native.Nat.{ℕ, zero, suc, ◌+◌, ◌≤◌}
use native.Mathlib.Omega.{arith}
use mathlib.Core.Path.{◌≡◌, refl, ap, ap₂, ◌∙◌}
use mathlib.Core.List.{List, [], ◌∷◌}
use mathlib.Core.Bool.{true, cond}
use lib.ListN.{length}
use Rattle.octets.specs.Octets.{part, be, be_at}
use Rattle.layout.specs.Fields.{Field, held, said, shown, width, allowed, raw, FieldAt, placed, after, bad_place, AllAllowed}
use Rattle.layout.specs.Outcomes.{Outcome, first_of, template_reasons}
use Rattle.layout.specs.Totals.{RefusedWith, ByTotal, Resized}
use Rattle.layout.proofs.Blocks.{bad-none, none-bad}
use Rattle.layout.proofs.Outcomes.{Headed, Fits}
use Rattle.layout.proofs.Ranges.{both_hold}
use Rattle.layout.proofs.Refusals.{ruled, stands, stood, stand_within}
use Rattle.layout.proofs.Totals.{fits-by-total}

module _ (s t : List ℕ) (r : Resized s t) (last : ℕ) (in-s : last ≤ length s) (in-t : last ≤ length t) where
  part_same : (at width : ℕ) → 5 ≤ at → at + width ≤ last + 1 → part t at width ≡ part s at width
  unfolding part
  part_same at zero h e = refl
  part_same at (suc width) h e = ap₂ (λ (x : ℕ) (xs : List ℕ). x ∷ xs) (r.same at h (omega arith) (omega arith)) (part_same (suc at) width (omega arith) (omega arith))

  -- up to there they say the same
  pub number_same : (at width : ℕ) → 5 ≤ at → at + width ≤ last + 1 → be_at t at width ≡ be_at s at width
  unfolding be_at
  number_same at width h e = ap be (part_same at width h e)

  one-allowed : (f : Field) (at : ℕ) → cond (ruled f) (stands last at f) true ≡ true → allowed f (be_at s at (width f)) ≡ true → allowed f (be_at t at (width f)) ≡ true
  one-allowed (held w a m) at e h = let there = stood last at (held w a m) e in rw (number_same at w there.0 there.2) h
  one-allowed (said v) at e h = refl
  one-allowed (shown w) at e h = refl

  same-allowed : (ps : List FieldAt) → stand_within last ps ≡ true → AllAllowed ps s → AllAllowed ps t
  unfolding AllAllowed stand_within
  same-allowed [] e a = tt
  same-allowed (p ∷ ps) e a =
      let parts = both_hold _ _ e in
      (one-allowed p.field p.at parts.0 a.0, same-allowed ps parts.1 a.1)

-- a section's fields begin with its length, and those with a rule stand within the smallest total
pub resized-by-total : (section smallest own total : ℕ) (fs : List Field) (s t : List ℕ) (rest : Outcome) → Resized s t → Fits smallest (bad_place (after 0 (raw 4 ∷ fs)) s) own total s → smallest ≤ length t → stand_within smallest (placed 0 5 fs) ≡ true → (RefusedWith 11 rest → ⊥) → (RefusedWith 21 rest → ⊥)
    → ByTotal section (length s) t (first_of section (template_reasons smallest (bad_place (after 0 (raw 4 ∷ fs)) t) own total t) rest)
unfolding AllAllowed placed
resized-by-total section smallest own total fs s t rest r f enough within not-11 not-21 =
    let fine = bad-none 0 1 (raw 4 ∷ fs) s (omega arith) f.in-range in
    let kept = none-bad (after 0 (raw 4 ∷ fs)) t (refl, same-allowed s t r smallest f.enough enough (placed 0 5 fs) within fine.1) in
    rw f.whole (fits-by-total section smallest _ own total t rest enough kept f.own-kept not-11 not-21)

-- its head says what it should
pub resized-headed : (section : ℕ) (s t : List ℕ) → Resized s t → Headed section s → 5 ≤ length t → length t ≤ 65536 → Headed section t
resized-headed section s t r h long small =
    record { long = long; small = small; says-length = r.says-length; says-number = number_same s t r 5 h.long long 5 1 (omega arith) (omega arith) ∙ h.says-number }
