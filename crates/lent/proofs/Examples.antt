-- Octets written into a lent buffer, on an example.
-- Assumes nothing.
use mathlib.Core.Path.{◌≡◌, refl}
use mathlib.Core.List.{[], ◌∷◌}
use Rattle.lent.specs.Written.{written, one, append}

-- three octets from index 1 on, where there is room for two
as-far-as-there-is-room : append (written (0 ∷ 0 ∷ 0 ∷ []) 1) (7 ∷ 8 ∷ 9 ∷ []) ≡ written (0 ∷ 7 ∷ 8 ∷ []) 3
unfolding append one
as-far-as-there-is-room = refl
