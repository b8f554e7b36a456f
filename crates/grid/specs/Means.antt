-- What is read out of a section 3, by name and octet: each field of the record is the meaning of its octets, by the template that the
-- section follows.
-- Assumes nothing.
use Rattle.std.specs.Prelude.{ℕ, ◌+◌, ◌≡◌, List}
use Rattle.octets.specs.Octets.{be_at, sign_of}
use Rattle.layout.specs.Missing.{unless_missing}
use Rattle.grid.specs.declared.templates.Template.{Template}
use Rattle.grid.specs.declared.templates.Template.TheVariants.{LatLon, Rotated, Stretched, StretchedAndRotated}
use Rattle.grid.specs.declared.blocks.EarthSize.{EarthSize}
use Rattle.grid.specs.declared.blocks.Pole.{Pole}
use Rattle.grid.specs.declared.blocks.Poles.{Poles}
use Rattle.grid.specs.declared.blocks.Poles.TheVariants.{None as no_poles, Rotated as is_rotated, Stretched as is_stretched, StretchedAndRotated as is_both}
use Rattle.grid.specs.declared.blocks.Grid.{Grid}

-- a size of the earth: the scale factor at octet `at`, and the scaled value in the four octets behind it
pub record MeansEarthSize (x : EarthSize) (at : ℕ) (s : List ℕ) : Type 0 where
  pub factor : x.factor ≡ unless_missing 1 (be_at s at 1)
  pub value : x.value ≡ unless_missing 4 (be_at s (at + 1) 4)

-- a pole: latitude, longitude, and the angle of rotation or stretching factor, from octet `at` on
abbrev pub pole_meant : ℕ → List ℕ → Pole
pole_meant at s =
    record {
      latitude = sign_of 4 (be_at s at 4);
      longitude = sign_of 4 (be_at s (at + 4) 4);
      angle_or_factor = be_at s (at + 8) 4;
    }

-- 3.0 has none, 3.1 that of projection, 3.2 that of stretching, and 3.3 both
abbrev pub poles_meant : Template → List ℕ → Poles
poles_meant LatLon s = no_poles
poles_meant Rotated s = is_rotated (pole_meant 73 s)
poles_meant Stretched s = is_stretched (pole_meant 73 s)
poles_meant StretchedAndRotated s = is_both (pole_meant 73 s) (pole_meant 85 s)

pub record Means₃ (template : Template) (x : Grid) (s : List ℕ) : Type 0 where
  pub says-length : x.length ≡ be_at s 1 4
  pub says-number : x.number ≡ be_at s 5 1
  pub source : x.source ≡ be_at s 6 1
  pub points : x.points ≡ be_at s 7 4
  pub list-width : x.list_width ≡ be_at s 11 1
  pub interpretation : x.interpretation ≡ be_at s 12 1
  pub template-number : x.template ≡ be_at s 13 2
  pub shape : x.common.earth.shape ≡ be_at s 15 1
  pub radius : MeansEarthSize x.common.earth.radius 16 s
  pub major-axis : MeansEarthSize x.common.earth.major_axis 21 s
  pub minor-axis : MeansEarthSize x.common.earth.minor_axis 26 s
  pub ni : x.common.ni ≡ unless_missing 4 (be_at s 31 4)
  pub nj : x.common.nj ≡ unless_missing 4 (be_at s 35 4)
  pub basic-angle : x.common.basic_angle ≡ be_at s 39 4
  pub subdivisions : x.common.subdivisions ≡ unless_missing 4 (be_at s 43 4)
  pub la1 : x.common.la1 ≡ sign_of 4 (be_at s 47 4)
  pub lo1 : x.common.lo1 ≡ sign_of 4 (be_at s 51 4)
  pub component-flags : x.common.component_flags ≡ be_at s 55 1
  pub la2 : x.common.la2 ≡ sign_of 4 (be_at s 56 4)
  pub lo2 : x.common.lo2 ≡ sign_of 4 (be_at s 60 4)
  pub di : x.common.di ≡ unless_missing 4 (be_at s 64 4)
  pub dj : x.common.dj ≡ unless_missing 4 (be_at s 68 4)
  pub scanning-mode : x.common.scanning_mode ≡ be_at s 72 1
  pub poles : x.poles ≡ poles_meant template s
