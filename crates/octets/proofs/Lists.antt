-- Laws of lists that several crates need.
-- Assumes nothing.
use mathlib.Core.Path.{◌≡◌, refl, sym, ◌∙◌}
use mathlib.Core.List.{List, [], ◌∷◌, map}
use Prim.Native.Nat.{ℕ, zero, suc, ◌<◌}
use native.Mathlib.Omega.{arith}
use lib.ListN.{length, get_or, length-map}

-- what owning an array of structs tells of its list
pub unmapped : (X Y : Type 0) (g : X → Y) (l : List X) (n : ℕ) → length (map g l) ≡ n → length l ≡ n
unmapped X Y g l n e = sym (length-map l g) ∙ e

-- within a list it is the same what stands past its end
pub get_or-within : {X : Type 0} (l : List X) (n : ℕ) (d e : X) → n < length l → get_or l n d ≡ get_or l n e
get_or-within [] n d e h = absurd (omega arith)
get_or-within (x ∷ l) zero d e h = refl
get_or-within (x ∷ l) (suc n) d e h = get_or-within l n d e (omega arith)
