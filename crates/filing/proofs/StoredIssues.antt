-- A number that stores an issue is at most 4,294,967,296, and one that stores none is above it, and refused with 19.
-- Assumes nothing.
use Prim.Native.Nat.{ℕ, ◌≤◌, ◌<◌}
use native.Mathlib.Omega.{arith}
use mathlib.Core.Path.{◌≡◌, refl}
use mathlib.Core.Bool.{Bool, true, false, cond}
use lib.Dec.{ltb}
use borrow.Author.Tests.{ltb-true, ltb-false}
use Rattle.std.specs.Prelude.{Option, Ok, Err}
use Rattle.layout.specs.Outcomes.{refusal}
use Rattle.layout.specs.declared.Refusal.{Refusal}
use Rattle.filing.specs.Filing.{issue_from, stored_issue}

pub stored-issue : (n : ℕ) (i : Option ℕ) → stored_issue n ≡ Ok i → (n ≤ 4294967296) × (i ≡ issue_from n)
stored-issue n i e = by (ltb 4294967296 n) refl e
  where
    by : (t : Bool) → ltb 4294967296 n ≡ t → cond t (Err (refusal 19 0 0)) (Ok (issue_from n)) ≡ Ok i → (n ≤ 4294967296) × (i ≡ issue_from n)
    by true t e = let z : ◌≡◌ {A = ℕ} 0 1 = cc in absurd (omega arith)
    by false t e = (ltb-false 4294967296 n t, cc)

pub too_large : (n : ℕ) (x : Refusal) → stored_issue n ≡ Err x → (4294967296 < n) × (x ≡ refusal 19 0 0)
too_large n x e = by (ltb 4294967296 n) refl e
  where
    by : (t : Bool) → ltb 4294967296 n ≡ t → cond t (Err (refusal 19 0 0)) (Ok (issue_from n)) ≡ Err x → (4294967296 < n) × (x ≡ refusal 19 0 0)
    by true t e = (ltb-true 4294967296 n t, cc)
    by false t e = let z : ◌≡◌ {A = ℕ} 0 1 = cc in absurd (omega arith)
