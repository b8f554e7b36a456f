-- What is read out of a section 4, by name and octet: each field of the record is the meaning of its octets.
-- Assumes nothing.
use Rattle.std.specs.Prelude.{ℕ, ◌+◌, ◌-◌, ◌≡◌, List, Option, Some, None}
use Rattle.octets.specs.Octets.{be_at, sign_of}
use Rattle.layout.specs.Missing.{unless_missing, signed_unless_missing}
use Rattle.layout.specs.Time.{MeansTime}
use Rattle.product.specs.Table.{CountAt, no_count, at_octet, TemplateRow}
use Rattle.product.specs.declared.templates.PartKind.{PartKind}
use Rattle.product.specs.declared.templates.PartKind.TheVariants.{None as no_part, Ensemble, Cluster, Probability, Aerosol}
use Rattle.product.specs.declared.blocks.Scaled.{Scaled}
use Rattle.product.specs.declared.blocks.Surface.{Surface}
use Rattle.product.specs.declared.blocks.EnsemblePart.{EnsemblePart}
use Rattle.product.specs.declared.blocks.ClusterPart.{ClusterPart}
use Rattle.product.specs.declared.blocks.ProbabilityPart.{ProbabilityPart}
use Rattle.product.specs.declared.blocks.AerosolPart.{AerosolPart}
use Rattle.product.specs.declared.blocks.IntervalEnd.{IntervalEnd}
use Rattle.product.specs.declared.blocks.Part.{Part}
use Rattle.product.specs.declared.blocks.Part.TheVariants.{None as part_none, Ensemble as is_ensemble, Cluster as is_cluster, Probability as is_probability, Aerosol as is_aerosol}
use Rattle.product.specs.declared.blocks.Product.{Product}

-- a scale factor at octet `at`, and its scaled value after it: signed, or missing
pub record MeansScaled (x : Scaled) (at : ℕ) (s : List ℕ) : Type 0 where
  pub factor : x.factor ≡ signed_unless_missing 1 (be_at s at 1)
  pub value : x.value ≡ signed_unless_missing 4 (be_at s (at + 1) 4)

-- a surface's type at octet `at`, and its scale factor and value after it
pub record MeansSurface (x : Surface) (at : ℕ) (s : List ℕ) : Type 0 where
  pub kind : x.kind ≡ be_at s at 1
  pub level : MeansScaled x.level (at + 1) s

-- ---- the parts

pub record MeansEnsemble (x : EnsemblePart) (s : List ℕ) : Type 0 where
  pub kind : x.kind ≡ be_at s 35 1
  pub perturbation : x.perturbation ≡ be_at s 36 1
  pub forecasts : x.forecasts ≡ be_at s 37 1

pub record MeansCluster (x : ClusterPart) (s : List ℕ) : Type 0 where
  pub derived : x.derived ≡ be_at s 35 1
  pub forecasts : x.forecasts ≡ be_at s 36 1
  pub identifier : x.identifier ≡ be_at s 37 1
  pub high-control : x.high_control ≡ be_at s 38 1
  pub low-control : x.low_control ≡ be_at s 39 1
  pub clusters : x.clusters ≡ be_at s 40 1
  pub method : x.method ≡ be_at s 41 1
  pub latitude : x.latitude ≡ be_at s 42 4
  pub longitude : x.longitude ≡ be_at s 46 4
  pub radius : x.radius ≡ be_at s 50 4
  pub nc : x.nc ≡ be_at s 54 1
  pub deviation-factor : x.deviation_factor ≡ be_at s 55 1
  pub deviation : x.deviation ≡ be_at s 56 4
  pub distance-factor : x.distance_factor ≡ be_at s 60 1
  pub distance : x.distance ≡ be_at s 61 4

pub record MeansProbability (x : ProbabilityPart) (s : List ℕ) : Type 0 where
  pub number : x.number ≡ be_at s 35 1
  pub probabilities : x.probabilities ≡ be_at s 36 1
  pub kind : x.kind ≡ be_at s 37 1
  pub lower : MeansScaled x.lower 38 s
  pub upper : MeansScaled x.upper 43 s

pub record MeansAerosol (x : AerosolPart) (s : List ℕ) : Type 0 where
  pub kind : x.kind ≡ be_at s 12 2
  pub interval-of-sizes : x.interval_of_sizes ≡ be_at s 14 1
  pub first : MeansScaled x.first 15 s
  pub second : MeansScaled x.second 20 s

-- the part that the template has, and no other
pub data MeansPart (s : List ℕ) : PartKind → Part → Type 0 where
  none : MeansPart s no_part part_none
  ensemble : (x : EnsemblePart) → MeansEnsemble x s → MeansPart s Ensemble (is_ensemble x)
  cluster : (x : ClusterPart) → MeansCluster x s → MeansPart s Cluster (is_cluster x)
  probability : (x : ProbabilityPart) → MeansProbability x s → MeansPart s Probability (is_probability x)
  aerosol : (x : AerosolPart) → MeansAerosol x s → MeansPart s Aerosol (is_aerosol x)

-- ---- the end of the interval

-- if n stands at octet p
pub record MeansEnd (x : IntervalEnd) (p : ℕ) (s : List ℕ) : Type 0 where
  pub year : x.year ≡ be_at s (p - 7) 2
  pub time : MeansTime x.time (p - 5) s
  pub n : x.n ≡ be_at s p 1
  pub missing-count : x.missing_count ≡ be_at s (p + 1) 4

-- there is one exactly where the template has time ranges
pub data MeansInterval (s : List ℕ) : CountAt → Option IntervalEnd → Type 0 where
  point : MeansInterval s no_count None
  ends : (p : ℕ) (x : IntervalEnd) → MeansEnd x p s → MeansInterval s (at_octet p) (Some x)

-- ---- the record

-- where a part stands ahead of the generating process, what follows it is moved
pub record Means₄ (row : TemplateRow) (x : Product) (s : List ℕ) : Type 0 where
  pub says-length : x.length ≡ be_at s 1 4
  pub says-number : x.number ≡ be_at s 5 1
  pub nv : x.nv ≡ be_at s 6 2
  pub template : x.template ≡ be_at s 8 2
  pub parameter-category : x.parameter.category ≡ be_at s 10 1
  pub parameter-number : x.parameter.number ≡ be_at s 11 1
  pub process-kind : x.process.kind ≡ be_at s (12 + row.moved) 1
  pub process-background : x.process.background ≡ be_at s (13 + row.moved) 1
  pub process-identifier : x.process.identifier ≡ be_at s (14 + row.moved) 1
  pub cutoff-hours : x.process.cutoff_hours ≡ unless_missing 2 (be_at s (15 + row.moved) 2)
  pub cutoff-minutes : x.process.cutoff_minutes ≡ be_at s (17 + row.moved) 1
  pub forecast-unit : x.forecast.unit ≡ be_at s (18 + row.moved) 1
  pub forecast-time : x.forecast.time ≡ sign_of 4 (be_at s (19 + row.moved) 4)
  pub first-surface : MeansSurface x.first_surface (23 + row.moved) s
  pub second-surface : MeansSurface x.second_surface (29 + row.moved) s
  pub part : MeansPart s row.part x.part
  pub interval : MeansInterval s row.ranges x.interval
