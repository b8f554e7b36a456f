-- The blocks that section 4's templates are made of: fields that stand together, wherever they start, and beside each what a
-- program's block says; at last the record.
-- Assumes nothing.
use Rattle.std.specs.Prelude.{ℕ, List, [], ◌∷◌, ◌++◌, Option, Some, None}
use Rattle.layout.specs.Fields.{Value, none, is, which, plain, Field, raw, present, signed_present, optional, optional_signed}
use Rattle.layout.specs.Missing.{in32, in_signed}
use Rattle.layout.specs.Time.{time, time_in}
use Rattle.product.specs.declared.blocks.Parameter.{Parameter}
use Rattle.product.specs.declared.blocks.Process.{Process}
use Rattle.product.specs.declared.blocks.Forecast.{Forecast}
use Rattle.product.specs.declared.blocks.Scaled.{Scaled}
use Rattle.product.specs.declared.blocks.Surface.{Surface}
use Rattle.product.specs.declared.blocks.EnsemblePart.{EnsemblePart}
use Rattle.product.specs.declared.blocks.ClusterPart.{ClusterPart}
use Rattle.product.specs.declared.blocks.ProbabilityPart.{ProbabilityPart}
use Rattle.product.specs.declared.blocks.AerosolPart.{AerosolPart}
use Rattle.product.specs.declared.blocks.IntervalEnd.{IntervalEnd}
use Rattle.product.specs.declared.blocks.Part.{Part}
use Rattle.product.specs.declared.blocks.Part.TheVariants.{None as part_none, Ensemble as is_ensemble, Cluster as is_cluster, Probability as is_probability, Aerosol as is_aerosol}
use Rattle.product.specs.declared.blocks.Product.{Product}

-- ---- what every template has

-- length, section number, NV, template
unfoldable pub head : List Field
head = raw 4 ∷ raw 1 ∷ raw 2 ∷ raw 2 ∷ []

-- category, number
unfoldable pub parameter : List Field
parameter = raw 1 ∷ raw 1 ∷ []

unfoldable pub parameter_in : Parameter → List Value
parameter_in x = plain x.category ∷ plain x.number ∷ []

-- type of generating process, background process, process; hours of the cut-off, or missing, and its minutes
unfoldable pub process : List Field
process = raw 1 ∷ raw 1 ∷ raw 1 ∷ optional 2 ∷ raw 1 ∷ []

unfoldable pub process_in : Process → List Value
process_in x =
    plain x.kind
    ∷ plain x.background
    ∷ plain x.identifier
    ∷ in32 x.cutoff_hours
    ∷ plain x.cutoff_minutes
    ∷ []

-- unit, forecast time: signed, never missing
unfoldable pub forecast : List Field
forecast = raw 1 ∷ signed_present 4 ∷ []

unfoldable pub forecast_in : Forecast → List Value
forecast_in x = plain x.unit ∷ is x.time ∷ []

-- scale factor and scaled value: signed, or missing by 255 and 32 ones
unfoldable pub scaled : List Field
scaled = optional_signed 1 ∷ optional_signed 4 ∷ []

unfoldable pub scaled_in : Scaled → List Value
scaled_in x = in_signed x.factor ∷ in_signed x.value ∷ []

-- type of surface, its scale factor and value
unfoldable pub surface : List Field
surface = raw 1 ∷ scaled

unfoldable pub surface_in : Surface → List Value
surface_in x = plain x.kind ∷ scaled_in x.level

-- these follow one another in every template: the process, the forecast time, two surfaces
unfoldable pub common : List Field
common = process ++ (forecast ++ (surface ++ surface))

-- ---- the parts

-- type of forecast, perturbation number, number of forecasts
unfoldable pub ensemble : List Field
ensemble = raw 1 ∷ raw 1 ∷ raw 1 ∷ []

unfoldable pub ensemble_in : EnsemblePart → List Value
ensemble_in x = plain x.kind ∷ plain x.perturbation ∷ plain x.forecasts ∷ []

-- derived forecast, number of forecasts, cluster, clusters of the high- and of the low-resolution control, number of clusters,
-- method; latitude, longitude and radius of the domain; Nc; scale factor and value of the deviation, and of the distance
unfoldable pub cluster : List Field
cluster =
    raw 1
    ∷ raw 1
    ∷ raw 1
    ∷ raw 1
    ∷ raw 1
    ∷ raw 1
    ∷ raw 1
    ∷ raw 4
    ∷ raw 4
    ∷ raw 4
    ∷ raw 1
    ∷ raw 1
    ∷ raw 4
    ∷ raw 1
    ∷ raw 4
    ∷ []

unfoldable pub cluster_in : ClusterPart → List Value
cluster_in x =
    plain x.derived
    ∷ plain x.forecasts
    ∷ plain x.identifier
    ∷ plain x.high_control
    ∷ plain x.low_control
    ∷ plain x.clusters
    ∷ plain x.method
    ∷ plain x.latitude
    ∷ plain x.longitude
    ∷ plain x.radius
    ∷ plain x.nc
    ∷ plain x.deviation_factor
    ∷ plain x.deviation
    ∷ plain x.distance_factor
    ∷ plain x.distance
    ∷ []

-- number, number of probabilities, type; lower limit, upper limit
unfoldable pub probability : List Field
probability = raw 1 ∷ raw 1 ∷ raw 1 ∷ (scaled ++ scaled)

unfoldable pub probability_in : ProbabilityPart → List Value
probability_in x =
    plain x.number
    ∷ plain x.probabilities
    ∷ plain x.kind
    ∷ (scaled_in x.lower ++ scaled_in x.upper)

-- type of aerosol, type of the interval of sizes; first size, second size
unfoldable pub aerosol : List Field
aerosol = raw 2 ∷ raw 1 ∷ (scaled ++ scaled)

unfoldable pub aerosol_in : AerosolPart → List Value
aerosol_in x = plain x.kind ∷ plain x.interval_of_sizes ∷ (scaled_in x.first ++ scaled_in x.second)

-- ---- the end of the interval: year, never missing, and time; n; the missing count

unfoldable pub interval : List Field
interval = present 2 ∷ (time ++ (raw 1 ∷ raw 4 ∷ []))

unfoldable pub end_in : IntervalEnd → List Value
end_in x = plain x.year ∷ (time_in x.time ++ (plain x.n ∷ plain x.missing_count ∷ []))

unfoldable pub interval_in : Option IntervalEnd → List Value
interval_in None = none ∷ []
interval_in (Some x) = end_in x

-- ---- the record

-- which part it is, and its values ahead of the generating process and behind the surfaces
unfoldable pub tag_in : Part → ℕ
tag_in part_none = 0
tag_in (is_ensemble x) = 1
tag_in (is_cluster x) = 2
tag_in (is_probability x) = 3
tag_in (is_aerosol x) = 4

unfoldable pub ahead_in : Part → List Value
ahead_in part_none = []
ahead_in (is_ensemble x) = []
ahead_in (is_cluster x) = []
ahead_in (is_probability x) = []
ahead_in (is_aerosol x) = aerosol_in x

unfoldable pub behind_in : Part → List Value
behind_in part_none = []
behind_in (is_ensemble x) = ensemble_in x
behind_in (is_cluster x) = cluster_in x
behind_in (is_probability x) = probability_in x
behind_in (is_aerosol x) = []

unfoldable pub values_in : Product → List Value
values_in x =
    plain x.length
    ∷ plain x.number
    ∷ plain x.nv
    ∷ plain x.template
    ∷ which (tag_in x.part)
    ∷ (parameter_in x.parameter
    ++ (ahead_in x.part
    ++ ((process_in x.process ++ (forecast_in x.forecast ++ (surface_in x.first_surface ++ surface_in x.second_surface)))
    ++ (behind_in x.part
    ++ interval_in x.interval))))
