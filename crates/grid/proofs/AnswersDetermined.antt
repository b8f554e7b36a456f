-- Any two answers that `read`'s contract allows for a section are one answer.
-- Assumes nothing.
use Prim.Native.Nat.{ℕ, zero, suc}
use mathlib.Core.Path.{◌≡◌, refl}
use mathlib.Core.List.{List}
use lib.ListN.{get_or, drop}
use Rattle.layout.specs.Fields.{Value, none, whole_in, natural_in}
use Rattle.layout.specs.Outcomes.{told}
use Rattle.layout.specs.declared.Refusal.{Refusal}
use Rattle.layout.proofs.Untold.{to32, back32, told_back, one_answer}
use Rattle.grid.specs.Blocks.{values_in, earth_size_in, earth_in, common_in, pole_in, poles_in}
use Rattle.grid.specs.Section3.{outcome₃}
use Rattle.grid.specs.declared.blocks.EarthSize.{EarthSize}
use Rattle.grid.specs.declared.blocks.Common.{Common}
use Rattle.grid.specs.declared.blocks.Pole.{Pole}
use Rattle.grid.specs.declared.blocks.Poles.{Poles}
use Rattle.grid.specs.declared.blocks.Poles.TheVariants.{None as no_poles, Rotated as is_rotated, Stretched as is_stretched, StretchedAndRotated as is_both}
use Rattle.grid.specs.declared.blocks.Grid.{Grid}
use Rattle.std.specs.Prelude.{Result}

-- ---- blocks of values

unfoldable pub to_earth_size : List Value → EarthSize
to_earth_size vs = record { factor = to32 (get_or vs 0 none); value = to32 (get_or vs 1 none) }

unfoldable pub to_pole : List Value → Pole
to_pole vs = record { latitude = whole_in (get_or vs 0 none); longitude = whole_in (get_or vs 1 none); angle_or_factor = natural_in (get_or vs 2 none) }

-- the first value tells which of them follow
unfoldable pub to_poles : List Value → Poles
to_poles vs = by-tag (natural_in (get_or vs 0 none))
  where
    by-tag : ℕ → Poles
    by-tag zero = no_poles
    by-tag (suc zero) = is_rotated (to_pole (drop 1 vs))
    by-tag (suc (suc zero)) = is_stretched (to_pole (drop 4 vs))
    by-tag (suc (suc (suc n))) = is_both (to_pole (drop 1 vs)) (to_pole (drop 4 vs))

poles-back : (x : Poles) → to_poles (poles_in x) ≡ x
unfolding to_pole to_poles pole_in poles_in
poles-back no_poles = refl
poles-back (is_rotated x) = refl
poles-back (is_stretched x) = refl
poles-back (is_both x y) = refl

unfoldable pub to_common : List Value → Common
to_common vs = record {
  earth =
      record {
        shape = natural_in (get_or vs 0 none);
        radius = to_earth_size (drop 1 vs);
        major_axis = to_earth_size (drop 3 vs);
        minor_axis = to_earth_size (drop 5 vs);
      };
  ni = to32 (get_or vs 7 none);
  nj = to32 (get_or vs 8 none);
  basic_angle = natural_in (get_or vs 9 none);
  subdivisions = to32 (get_or vs 10 none);
  la1 = whole_in (get_or vs 11 none);
  lo1 = whole_in (get_or vs 12 none);
  component_flags = natural_in (get_or vs 13 none);
  la2 = whole_in (get_or vs 14 none);
  lo2 = whole_in (get_or vs 15 none);
  di = to32 (get_or vs 16 none);
  dj = to32 (get_or vs 17 none);
  scanning_mode = natural_in (get_or vs 18 none);
}

-- the record that says these values
unfoldable pub to_grid : List Value → Grid
to_grid vs =
    record {
      length = natural_in (get_or vs 0 none);
      number = natural_in (get_or vs 1 none);
      source = natural_in (get_or vs 2 none);
      points = natural_in (get_or vs 3 none);
      list_width = natural_in (get_or vs 4 none);
      interpretation = natural_in (get_or vs 5 none);
      template = natural_in (get_or vs 6 none);
      common = to_common (drop 7 vs);
      poles = to_poles (drop 26 vs);
    }

pub grid-back : (x : Grid) → to_grid (values_in x) ≡ x
unfolding to_grid values_in common_in earth_in earth_size_in to_earth_size to_common
grid-back x = simp (back32, poles-back)

-- so two records that say the same are one record
pub same-record : (x y : Grid) → values_in x ≡ values_in y → x ≡ y
same-record = told_back values_in to_grid grid-back

-- and two answers that say the same are one answer
pub determined : (s : List ℕ) (a b : Result Grid Refusal) → told values_in a ≡ outcome₃ s → told values_in b ≡ outcome₃ s → a ≡ b
determined s = one_answer values_in to_grid grid-back (outcome₃ s)
