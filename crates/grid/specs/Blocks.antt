-- The blocks that section 3 is made of: fields that stand together, and beside each what a program's block says; at last the record.
-- Assumes nothing.
use Rattle.std.specs.Prelude.{ℕ, List, [], ◌∷◌, ◌++◌, Bool, ◌||◌, eqb}
use Rattle.layout.specs.Fields.{Value, none, is, which, plain, unsigned, Field, held, raw, ranged, signed_present, optional, nonzero_or_missing, lacking, tag}
use Rattle.layout.specs.Missing.{in32}
use Rattle.grid.specs.declared.templates.Template.{Template}
use Rattle.grid.specs.declared.templates.Template.TheVariants.{LatLon, Rotated, Stretched, StretchedAndRotated}
use Rattle.grid.specs.declared.blocks.EarthSize.{EarthSize}
use Rattle.grid.specs.declared.blocks.Earth.{Earth}
use Rattle.grid.specs.declared.blocks.Common.{Common}
use Rattle.grid.specs.declared.blocks.Pole.{Pole}
use Rattle.grid.specs.declared.blocks.Poles.{Poles}
use Rattle.grid.specs.declared.blocks.Poles.TheVariants.{None as no_poles, Rotated as is_rotated, Stretched as is_stretched, StretchedAndRotated as is_both}
use Rattle.grid.specs.declared.blocks.Grid.{Grid}

-- octet 11: the numbers of a list have 1, 2 or 4 octets, and 0 says that there is no list
unfoldable pub has_list : ℕ → Bool
has_list width = eqb width 1 || eqb width 2 || eqb width 4

abbrev pub width_allowed : ℕ → Bool
width_allowed width = eqb width 0 || has_list width

-- octets 1 to 14: length, number, source, number of points, list width, list interpretation, template number
unfoldable pub grid_head : List Field
grid_head = raw 4 ∷ raw 1 ∷ ranged 1 0 0 ∷ raw 4 ∷ held 1 width_allowed unsigned ∷ ranged 1 0 2 ∷ raw 2 ∷ []

-- a scale factor and a scaled value: unsigned, or missing
unfoldable pub earth_size : List Field
earth_size = optional 1 ∷ optional 4 ∷ []

unfoldable pub earth_size_in : EarthSize → List Value
earth_size_in x = in32 x.factor ∷ in32 x.value ∷ []

-- octets 15 to 30: shape of the earth, its radius, its major axis, its minor axis
unfoldable pub earth : List Field
earth = raw 1 ∷ (earth_size ++ (earth_size ++ earth_size))

unfoldable pub earth_in : Earth → List Value
earth_in x = plain x.shape ∷ (earth_size_in x.radius ++ (earth_size_in x.major_axis ++ earth_size_in x.minor_axis))

-- octets 31 to 46: Ni, Nj, basic angle, subdivisions
unfoldable pub counts : List Field
counts = nonzero_or_missing 4 ∷ nonzero_or_missing 4 ∷ raw 4 ∷ nonzero_or_missing 4 ∷ []

-- octets 47 to 72: La1, Lo1, component flags, La2, Lo2, Di, Dj, scanning mode
unfoldable pub corners : List Field
corners =
    signed_present 4
    ∷ signed_present 4
    ∷ raw 1
    ∷ signed_present 4
    ∷ signed_present 4
    ∷ optional 4
    ∷ optional 4
    ∷ raw 1
    ∷ []

-- octets 15 to 72, the same in all four templates
unfoldable pub common : List Field
common = earth ++ (counts ++ corners)

unfoldable pub common_in : Common → List Value
common_in x =
    earth_in x.earth
    ++ (in32 x.ni
    ∷ in32 x.nj
    ∷ plain x.basic_angle
    ∷ in32 x.subdivisions
    ∷ is x.la1
    ∷ is x.lo1
    ∷ plain x.component_flags
    ∷ is x.la2
    ∷ is x.lo2
    ∷ in32 x.di
    ∷ in32 x.dj
    ∷ plain x.scanning_mode
    ∷ [])

-- latitude and longitude of a pole, and its angle of rotation or stretching factor
unfoldable pub pole : List Field
pole = signed_present 4 ∷ signed_present 4 ∷ raw 4 ∷ []

unfoldable pub pole_in : Pole → List Value
pole_in x = is x.latitude ∷ is x.longitude ∷ plain x.angle_or_factor ∷ []

abbrev pub no_pole : List Field
no_pole = lacking ∷ lacking ∷ lacking ∷ []

abbrev pub no_pole_in : List Value
no_pole_in = none ∷ none ∷ none ∷ []

-- from octet 73 on: the southern pole of projection, and then the pole of stretching
unfoldable pub poles : Template → List Field
poles LatLon = tag 0 ∷ (no_pole ++ no_pole)
poles Rotated = tag 1 ∷ (pole ++ no_pole)
poles Stretched = tag 2 ∷ (no_pole ++ pole)
poles StretchedAndRotated = tag 3 ∷ (pole ++ pole)

unfoldable pub poles_in : Poles → List Value
poles_in no_poles = which 0 ∷ (no_pole_in ++ no_pole_in)
poles_in (is_rotated x) = which 1 ∷ (pole_in x ++ no_pole_in)
poles_in (is_stretched x) = which 2 ∷ (no_pole_in ++ pole_in x)
poles_in (is_both x y) = which 3 ∷ (pole_in x ++ pole_in y)

unfoldable pub values_in : Grid → List Value
values_in x =
    plain x.length
    ∷ plain x.number
    ∷ plain x.source
    ∷ plain x.points
    ∷ plain x.list_width
    ∷ plain x.interpretation
    ∷ plain x.template
    ∷ (common_in x.common ++ poles_in x.poles)
