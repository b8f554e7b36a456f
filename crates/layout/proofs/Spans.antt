-- A part without octets may stand anywhere, so to stand nowhere takes nothing from it.
-- Assumes nothing.
use Prim.Native.Nat.{ℕ, zero, suc, ◌+◌, ◌≤◌}
use native.Mathlib.Omega.{arith}
use mathlib.Core.Path.{◌≡◌, refl}
use mathlib.Core.Bool.{false}
use mathlib.Core.List.{List}
use lib.Dec.{eqb}
use lib.ListN.{length, take, drop}
use borrow.Author.Tests.{ne_eqb}
use Rattle.layout.specs.Spans.{span_after, octets_in, Within}

not-0 : (n : ℕ) → eqb (suc n) 0 ≡ false
not-0 n = ne_eqb (suc n) 0 (λ e. omega arith)

pub octets-after : (before octets : ℕ) (s : List ℕ) → octets_in (span_after before octets) s ≡ take octets (drop before s)
octets-after before zero s = refl
octets-after before (suc n) s = rw (not-0 n)

pub after-within : (before octets : ℕ) (s : List ℕ) → before + octets ≤ length s → Within (span_after before octets) s
after-within before zero s h = omega arith
after-within before (suc n) s h = rw (not-0 n) h
