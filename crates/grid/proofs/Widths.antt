-- The widths of a list, and the base's end, which is small.
-- Assumes nothing.
use mathlib.Core.Path.{◌≡◌, refl}
use mathlib.Core.Bool.{Bool, true, false, ◌||◌}
use mathlib.Core.List.{List}
use mathlib.Core.Logic.{◌⊎◌, inl, inr}
use Prim.Native.Nat.{ℕ, ◌≤◌}
use native.Mathlib.Omega.{arith}
use lib.Dec.{eqb}
use borrow.Author.Tests.{ne_eqb, eqb-true}
use Rattle.layout.proofs.Ranges.{both_hold}
use Rattle.grid.specs.Blocks.{has_list}
use Rattle.grid.specs.Templates.{base_end, list_width}
use Rattle.grid.specs.Agreement.{agreed}
use Rattle.grid.specs.declared.templates.Template.{Template}
use Rattle.grid.specs.declared.templates.Template.TheVariants.{LatLon, Rotated, Stretched, StretchedAndRotated}

-- 1, 2 and 4, and no other
pub no_list : (width : ℕ) → (width ≡ 1 → ⊥) → (width ≡ 2 → ⊥) → (width ≡ 4 → ⊥) → has_list width ≡ false
unfolding has_list
no_list width a b c = simp (ne_eqb _ _ a, ne_eqb _ _ b, ne_eqb _ _ c)

pub which-width : (width : ℕ) → has_list width ≡ true → (width ≡ 1) ⊎ ((width ≡ 2) ⊎ (width ≡ 4))
unfolding has_list
which-width width e = by_one (eqb width 1) refl (eqb width 2) refl e
  where
    by_one : (a : Bool) → eqb width 1 ≡ a → (b : Bool) → eqb width 2 ≡ b → (a || b || eqb width 4) ≡ true → (width ≡ 1) ⊎ ((width ≡ 2) ⊎ (width ≡ 4))
    by_one true h b g e = inl (eqb-true _ _ h)
    by_one false h true g e = inr (inl (eqb-true _ _ g))
    by_one false h false g e = inr (inr (eqb-true _ _ e))

pub width-listed : (width : ℕ) → (width ≡ 1) ⊎ ((width ≡ 2) ⊎ (width ≡ 4)) → has_list width ≡ true
unfolding has_list
width-listed width (inl e) = rw e
width-listed width (inr (inl e)) = rw e
width-listed width (inr (inr e)) = rw e

pub listed-not-0 : (width : ℕ) → has_list width ≡ true → eqb width 0 ≡ false
unfolding has_list
listed-not-0 width e = by-test (eqb width 0) refl
  where
    by-test : (t : Bool) → eqb width 0 ≡ t → t ≡ false
    by-test false h = refl
    by-test true h = let g = rw (eqb-true width 0 h) at e in let z : ◌≡◌ {A = ℕ} 0 1 = cc in absurd (omega arith)

-- numbers that agree and a width that is not 0: there is a list
pub agreed_list : (s : List ℕ) → agreed s ≡ true → (list_width s ≡ 0 → ⊥) → has_list (list_width s) ≡ true
unfolding agreed
agreed_list s e h = (both_hold _ _ (rw (ne_eqb _ _ h) at e)).0

pub base-between : (template : Template) → (72 ≤ base_end template) × (base_end template ≤ 96)
base-between LatLon = (omega arith, omega arith)
base-between Rotated = (omega arith, omega arith)
base-between Stretched = (omega arith, omega arith)
base-between StretchedAndRotated = (omega arith, omega arith)

pub base_small : (template : Template) → base_end template ≤ 96
base_small template = (base-between template).1
