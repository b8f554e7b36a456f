-- What is read out of a section 3 is by name and octet what document 01 has: it follows from the values of the fields in their order.
-- Assumes nothing.
use Prim.Native.Nat.{ℕ}
use mathlib.Core.Path.{◌≡◌, refl, ap, sym, subst, ◌∙◌}
use mathlib.Core.List.{List, [], ◌∷◌, ◌++◌}
use Rattle.octets.specs.Octets.{be_at}
use Rattle.layout.specs.Fields.{shown, placed, values_of}
use Rattle.layout.proofs.Untold.{means32}
use Rattle.grid.specs.Blocks.{grid_head, earth_size, earth, counts, corners, common, pole, poles, values_in}
use Rattle.grid.specs.Templates.{fields₃, list_octets, values₃}
use Rattle.grid.specs.Means.{poles_meant, Means₃}
use Rattle.grid.specs.declared.templates.Template.{Template}
use Rattle.grid.specs.declared.templates.Template.TheVariants.{LatLon, Rotated, Stretched, StretchedAndRotated}
use Rattle.grid.specs.declared.blocks.Grid.{Grid}
use Rattle.grid.proofs.AnswersDetermined.{to_earth_size, to_pole, to_poles, to_common, to_grid, grid-back}

-- from octet 73 on, by the template; of the list a record holds nothing
poles-mean : (template : Template) (n : ℕ) (s : List ℕ) → to_poles (values_of (placed 0 73 (poles template ++ (shown n ∷ []))) s) ≡ poles_meant template s
unfolding to_poles to_pole values_of placed pole poles
poles-mean LatLon n s = refl
poles-mean Rotated n s = refl
poles-mean Stretched n s = refl
poles-mean StretchedAndRotated n s = refl

pub means₃ : (template : Template) (s : List ℕ) (x : Grid) → values_in x ≡ values₃ template s → Means₃ template x s
unfolding to_grid to_common to_earth_size values₃ values_of placed fields₃ grid_head earth_size earth counts corners common
means₃ template s x e =
    subst (λ (y : Grid). Means₃ template y s) (ap to_grid (sym e) ∙ grid-back x)
    (record {
      says-length = refl;
      says-number = refl;
      source = refl;
      points = refl;
      list-width = refl;
      interpretation = refl;
      template-number = refl;
      shape = refl;
      radius = record { factor = means32 1 (be_at s 16 1); value = means32 4 (be_at s 17 4) };
      major-axis = record { factor = means32 1 (be_at s 21 1); value = means32 4 (be_at s 22 4) };
      minor-axis = record { factor = means32 1 (be_at s 26 1); value = means32 4 (be_at s 27 4) };
      ni = means32 4 (be_at s 31 4);
      nj = means32 4 (be_at s 35 4);
      basic-angle = refl;
      subdivisions = means32 4 (be_at s 43 4);
      la1 = refl;
      lo1 = refl;
      component-flags = refl;
      la2 = refl;
      lo2 = refl;
      di = means32 4 (be_at s 64 4);
      dj = means32 4 (be_at s 68 4);
      scanning-mode = refl;
      poles = poles-mean template (list_octets s) s;
    })
