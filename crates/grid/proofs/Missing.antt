-- What a number that may be missing says of its octets.
-- Assumes nothing.
use Prim.Native.Nat.{ℕ}
use mathlib.Core.Path.{◌≡◌, refl, sym, ap, ◌∙◌}
use mathlib.Core.Bool.{Bool, true, false, cond}
use lib.Dec.{eqb}
use Rattle.std.specs.Prelude.{Option, Some, None, is_none, unwrap_or}
use Rattle.octets.specs.Octets.{all_ones}
use Rattle.layout.specs.Fields.{means, unsigned, or_missing}
use Rattle.layout.specs.Missing.{in32, unless_missing}
use Rattle.layout.proofs.Untold.{to32, back32, means32}
use Rattle.grid.specs.Templates.{is_missing}

read : (x : Option ℕ) (n : ℕ) → in32 x ≡ means (or_missing unsigned) 4 n → x ≡ unless_missing 4 n
read x n e = sym (back32 x) ∙ ap to32 e ∙ means32 4 n

pub is_missing_none : (x : Option ℕ) (n : ℕ) → in32 x ≡ means (or_missing unsigned) 4 n → is_none x ≡ is_missing n
is_missing_none x n e = rw (read x n e) (by (eqb n (all_ones 4)))
  where
    by : (t : Bool) → is_none (cond t None (Some n)) ≡ t
    by true = refl
    by false = refl

pub ni_or_nj : (x : Option ℕ) (n m : ℕ) → in32 x ≡ means (or_missing unsigned) 4 n → unwrap_or x m ≡ cond (is_missing n) m n
ni_or_nj x n m e = rw (read x n e) (by (eqb n (all_ones 4)))
  where
    by : (t : Bool) → unwrap_or (cond t None (Some n)) m ≡ cond t m n
    by true = refl
    by false = refl
