-- An array that std makes of what a closure answers at each index.
-- Assumes nothing.
use mathlib.Core.Path.{◌≡◌, refl, sym, subst, subst⁻¹, ◌∙◌}
use mathlib.Core.List.{List}
use Prim.Native.Nat.{ℕ, zero, suc, ◌+◌, ◌≤◌, ◌<◌}
use native.Mathlib.Decide.{ℕ_discrete}
use native.Mathlib.Omega.{arith}
use lib.ListN.{length, get_or}
use lib.Seq.{ext_get_or}
use denote.Param.Members.{Mut}
use Rattle.std.specs.Fn.{Called}
use Rattle.std.specs.Array.{IsFromFnResult, IsFromFnResultFrom}

module _ {F B : Type 0} (g : Mut F (ℕ × Unit {0}) B) (f : F) (zs : List B) (d : B) (n : ℕ) (long : length zs ≡ n)
    (step : (i : ℕ) (y : B) (f' : F) → i < n → Called g f (i, tt) y f' → (y ≡ get_or zs i d) × (f' ≡ f)) where
  from : (ys : List B) (q : F) (i m : ℕ) → q ≡ f → i + m ≡ n → IsFromFnResultFrom g q ys i m → (k : ℕ) → i ≤ k → k < n → get_or ys k d ≡ get_or zs k d
  from ys q i zero e t r k l h = absurd (omega arith)
  from ys q i (suc m) e t r k l h = by_place (ℕ_discrete k i) (λ l'. from ys r.0 (i + 1) m one.1 (omega arith) r.4 k l' h)
    where
      one : (r.1 ≡ get_or zs i d) × (r.0 ≡ f)
      one = step i r.1 r.0 (omega arith) (subst (λ (x : F). Called g x (i, tt) r.1 r.0) e r.3)

      by_place : Dec (k ≡ i) → (i + 1 ≤ k → get_or ys k d ≡ get_or zs k d) → get_or ys k d ≡ get_or zs k d
      by_place (yes e') rest = subst⁻¹ (λ (j : ℕ). get_or ys j d ≡ get_or zs j d) e' (r.2.1 d ∙ one.0)
      by_place (no e') rest = rest (omega arith)

  -- it is the list of which each call answers the element at its index, where no call changes the closure
  pub made : (ys : List B) → IsFromFnResult g f ys n → ys ≡ zs
  made ys r = ext_get_or d ys zs (r.long ∙ sym long) (λ k h. from ys f 0 n refl (omega arith) r.each k (omega arith) (omega (arith, r.long)))
