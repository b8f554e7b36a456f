-- What its total decides of a section 5.
-- Assumes nothing.
use Prim.Native.Nat.{ℕ, ◌≤◌}
use native.Mathlib.Omega.{arith}
use mathlib.Core.Path.{sym, subst, ◌∙◌}
use mathlib.Core.List.{List, [], ◌∷◌}
use mathlib.Core.Bool.{not}
use lib.Dec.{eqb}
use lib.ListN.{length, drop}
use Rattle.octets.specs.Octets.{be_at}
use Rattle.layout.specs.Fields.{after, values_of}
use Rattle.layout.specs.Outcomes.{read, reason, opening_reasons}
use Rattle.layout.specs.Totals.{NoLower, ByTotal, Resized}
use Rattle.layout.proofs.Outcomes.{NoneHold, read_none, none_last, opening-read, opening-last, template-read}
use Rattle.layout.proofs.Ranges.{same_test}
use Rattle.layout.proofs.Resized.{number_same, resized-by-total, resized-headed}
use Rattle.layout.proofs.Totals.{AllLower, behind-lower, opening-lower, template-by-total}
use Rattle.packing.specs.Section5.{fields₅, as_simple, outcome₅}
use Rattle.packing.specs.Accepted.{Follows₅}
use Rattle.packing.proofs.RefusalNumbers.{within₅}
use Rattle.packing.proofs.AcceptedExactlyWhen.{follows-accepted₅}

pub short-or-long₅ : (s : List ℕ) → NoLower (outcome₅ s) → ByTotal 5 21 s (outcome₅ s)
unfolding outcome₅ as_simple AllLower
short-or-long₅ s =
    behind-lower (ByTotal 5 21 s) 5 (opening_reasons 5 11 s) _ (opening-lower 5 11 s)
    (behind-lower (ByTotal 5 21 s) 5 (reason 6 (not (eqb (be_at s 10 2) 0)) ∷ []) (as_simple s) (omega arith, tt)
    (template-by-total 5 21 _ 0 21 s (read (values_of (after 0 fields₅) s)) (omega arith) (λ e. e) (λ e. e)))

-- an accepted one that was clipped, but not below its smallest total, or has got a tail
pub resized₅ : (s t : List ℕ) → Follows₅ s → Resized s t → 21 ≤ length t → length t ≤ 65536 → ByTotal 5 (length s) t (outcome₅ t)
unfolding outcome₅ as_simple NoneHold fields₅
resized₅ s t f r enough small =
    let head = opening-read 5 s _ 11 _ (follows-accepted₅ s f) in
    let six = read_none 5 (reason 6 (not (eqb (be_at s 10 2) 0)) ∷ []) (as_simple s) _ head.2 in
    let fits = template-read 5 s _ _ _ _ _ _ six.1 in
    let template = number_same s t r 21 fits.0.enough enough 10 2 (omega arith) (omega arith) ∙ f.template in
    let behind =
    opening-last 5 t _ 11 (resized-headed 5 s t r head.0 (omega arith) small) (omega arith)
    ∙ none_last 5 (reason 6 (not (eqb (be_at t 10 2) 0)) ∷ []) (as_simple t) (same_test _ _ template, tt)
    in
    subst (ByTotal 5 (length s) t) (sym behind) (resized-by-total 5 21 0 21 (drop 1 fields₅) s t _ r fits.0 enough within₅ (λ e. e) (λ e. e))
