-- Octets written into a lent buffer.
-- Assumes nothing.
use mathlib.Core.Path.{◌≡◌, refl, ap, ap₂, sym, ◌∙◌}
use mathlib.Core.Bool.{Bool, true, false, cond}
use mathlib.Core.List.{List, [], ◌∷◌, ◌++◌}
use Prim.Native.Nat.{ℕ, suc, ◌+◌, ◌-◌, ◌≤◌}
use native.Mathlib.Omega.{arith}
use native.Mathlib.Nat.{zero-add}
use native.Mathlib.Numerals.{add-one}
use lib.Dec.{ltb}
use lib.ListN.{length, get_or, take, drop, set, length-set, length-append}
use lib.Seq.{sets, sets-eq, take-nil, take_at}
use borrow.Author.Tests.{lt-ltb, le-ltb, ltb-true, ltb-false}
use Rattle.std.proofs.lemmas.List.{take_more}
use Rattle.lent.specs.Lent.{over}
use Rattle.lent.specs.Written.{Written, written, one, append, starts_with}

-- two texts, one after the other
pub append-both : (x : Written) (t u : List ℕ) → append x (t ++ u) ≡ append (append x t) u
unfolding append
append-both x [] u = refl
append-both x (c ∷ t) u = append-both (one x c) t u

-- ---- the room

-- the buffer stays as long as it is
pub same-room : (x : Written) (t : List ℕ) → length (append x t).octets ≡ length x.octets
unfolding append one
same-room x [] = refl
same-room x (c ∷ t) = same-room (one x c) t ∙ by-room (ltb x.at (length x.octets))
  where
    by-room : (b : Bool) → length (cond b (written (set x.octets x.at c) (x.at + 1)) x).octets ≡ length x.octets
    by-room true = length-set x.octets x.at c
    by-room false = refl

one_by_one : (x : Written) (t : List ℕ) → x.at + length t ≤ length x.octets → append x t ≡ written (sets x.octets x.at t) (x.at + length t)
unfolding append one
one_by_one x [] h = ap (written x.octets) (omega arith)
one_by_one x (c ∷ t) h =
    let y = written (set x.octets x.at c) (x.at + 1) in
    let next : one x c ≡ y = simp (lt-ltb x.at (length x.octets) (omega arith)) in
    ap (λ (w : Written). append w t) next
    ∙ one_by_one y t (simp length-set (omega arith))
    ∙ ap₂ (λ (i n : ℕ). written (sets y.octets i t) n) (add-one x.at) (omega arith)

-- a text that fits stands there whole, and all around it is as it was
pub append-fits : (x : Written) (t : List ℕ) → x.at + length t ≤ length x.octets
    → append x t ≡ written (take x.at x.octets ++ t ++ drop (x.at + length t) x.octets) (x.at + length t)
append-fits x t h = one_by_one x t h ∙ ap (λ (l : List ℕ). written l (x.at + length t)) (sets-eq t x.octets x.at h)

-- where there is no room nothing is written
pub append-full : (x : Written) (t : List ℕ) → length x.octets ≤ x.at → append x t ≡ x
unfolding append one
append-full x [] h = refl
append-full x (c ∷ t) h =
    let same : one x c ≡ x = simp (le-ltb x.at (length x.octets) h) in
    ap (λ (w : Written). append w t) same ∙ append-full x t h

-- of a text that does not fit the first octets are written, as many as there is room for
pub append-cut : (x : Written) (t : List ℕ) → append x t ≡ append x (take (length x.octets - x.at) t)
unfolding append one
append-cut x [] = rw take-nil
append-cut x (c ∷ t) = by-room (ltb x.at (length x.octets)) refl (append-cut (written (set x.octets x.at c) (x.at + 1)) t)
  where
    y : Written
    y = written (set x.octets x.at c) (x.at + 1)

    by-room : (b : Bool) → ltb x.at (length x.octets) ≡ b → append y t ≡ append y (take (length y.octets - y.at) t)
        → append x (c ∷ t) ≡ append x (take (length x.octets - x.at) (c ∷ t))
    by-room true e rest =
        let next : one x c ≡ y = simp e in
        let room : length x.octets - x.at ≡ suc (length y.octets - y.at) = simp length-set (omega (arith, ltb-true x.at (length x.octets) e)) in
        rw room (ap (λ (w : Written). append w t) next ∙ rest ∙ sym (ap (λ (w : Written). append w (take (length y.octets - y.at) t)) next))
    by-room false e rest =
        let none : length x.octets - x.at ≡ 0 = omega (arith, ltb-false x.at (length x.octets) e) in
        rw none (append-full x (c ∷ t) (ltb-false x.at (length x.octets) e))

-- a text that fits is the whole of it
pub append-whole : (out t : List ℕ) → length t ≤ length out → append (written out 0) t ≡ starts_with out t
unfolding starts_with
append-whole out t h = simp zero-add at (append-fits (written out 0) t (omega arith))

-- where it ends, and what then stands before and behind that
module _ (out t : List ℕ) {y : Written} (e : y ≡ starts_with out t) where
  pub starts-within : y.at ≤ length y.octets
  unfolding starts_with
  starts-within = rw e (simp length-append (omega arith))

  pub starts-to : y.at ≡ length t
  unfolding starts_with
  starts-to = ap (λ (w : Written). w.at) e

  pub starts-over : y.octets ≡ over out t
  unfolding starts_with
  starts-over = ap (λ (w : Written). w.octets) e

  pub starts-front : take y.at y.octets ≡ t
  starts-front = ap (take y.at) starts-over ∙ take_at t (drop (length t) out) y.at (sym starts-to)
