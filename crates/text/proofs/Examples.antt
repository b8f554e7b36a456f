-- Text, on a few examples.
-- Assumes nothing.
use mathlib.Core.Path.{◌≡◌, refl}
use mathlib.Core.List.{[], ◌∷◌}
use lib.IntN.{negsuc}
use Rattle.text.specs.Text.{digits_in, decimal, whole_number}

zero-is-0 : decimal 0 ≡ 48 ∷ []
unfolding digits_in
zero-is-0 = refl

no-leading-zeros : decimal 105 ≡ 49 ∷ 48 ∷ 53 ∷ []
unfolding digits_in
no-leading-zeros = refl

-- -12
sign-first : whole_number (negsuc 11) ≡ 45 ∷ 49 ∷ 50 ∷ []
unfolding digits_in
sign-first = refl
