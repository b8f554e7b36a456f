-- The sections of a message have the length that their own octets say.
-- Assumes nothing.
use Prim.Native.Nat.{ℕ}
use mathlib.Core.Path.{refl, sym, subst}
use mathlib.Core.Logic.{⊎_elim}
use mathlib.Core.List.Memᴰ
use mathlib.Core.List.{List, [], ◌∷◌, ◌++◌, Memᴰ}
use Rattle.cutting.specs.Sections.{Sized}
use Rattle.message.specs.Grammar.{Opening, at_two, at_three, at_four, Opens, Group, opened, all_sections, IsGroup, AreGroups}

unfoldable pub AllSized : List (List ℕ) → Type 0
AllSized [] = Unit {0}
AllSized (x ∷ xs) = Sized x × AllSized xs

-- the same said of each that is among them
pub each-sized : (xs : List (List ℕ)) → AllSized xs → (x : List ℕ) → Memᴰ x xs → Sized x
unfolding AllSized
each-sized [] z x m = absurd (Memᴰ.not-nil m)
each-sized (y ∷ ys) z x m = ⊎_elim (λ same. subst Sized (sym same) z.0) (each-sized ys z.1 x) (Memᴰ.cases_cons m)

pub all-sized : (xs : List (List ℕ)) → ((x : List ℕ) → Memᴰ x xs → Sized x) → AllSized xs
unfolding AllSized
all-sized [] z = tt
all-sized (x ∷ xs) z = (z x (Memᴰ.head refl), all-sized xs (λ y m. z y (Memᴰ.tail m)))

-- ---- those of groups

sized-four : (g : Group) (xs : List (List ℕ)) → IsGroup g → AllSized xs → AllSized (g.four ∷ g.five ∷ g.six ∷ g.seven ∷ xs)
unfolding AllSized
sized-four g xs is z = (is.four.sized, (is.five.sized, (is.six.sized, (is.seven.sized, z))))

sized-group : (o : Opening) (g : Group) (xs : List (List ℕ)) → Opens o → IsGroup g → AllSized xs → AllSized ((opened o ++ (g.four ∷ g.five ∷ g.six ∷ g.seven ∷ [])) ++ xs)
unfolding AllSized
sized-group at_four g xs o is z = sized-four g xs is z
sized-group (at_three x) g xs o is z = (o.sized, sized-four g xs is z)
sized-group (at_two y x) g xs o is z = (o.0.sized, (o.1.sized, sized-four g xs is z))

pub sized-groups : (gs : List Group) → AreGroups gs → AllSized (all_sections gs)
unfolding AllSized AreGroups all_sections
sized-groups [] are = tt
sized-groups (g ∷ gs) are = sized-group g.opening g (all_sections gs) are.0.opens are.0 (sized-groups gs are.1)
