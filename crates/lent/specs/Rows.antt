-- What is made of numbers that rise by one, one after the other.
-- Assumes nothing.
use Rattle.std.specs.Prelude.{ℕ, zero, suc, List, [], ◌∷◌, ◌++◌}

-- a value of each of n numbers from i on
unfoldable pub each_from : {A : Type 0} → (ℕ → A) → ℕ → ℕ → List A
each_from f i zero = []
each_from f i (suc n) = f i ∷ each_from f (suc i) n

-- a list of each of n numbers from i on, strung together
unfoldable pub in_turn : {A : Type 0} → (ℕ → List A) → ℕ → ℕ → List A
in_turn f i zero = []
in_turn f i (suc n) = f i ++ in_turn f (suc i) n
