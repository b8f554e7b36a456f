-- Document 01's table of section 4's templates as data, a row a template; and the octets of each template's fields by their numbers.
-- Assumes nothing.
use Rattle.std.specs.Prelude.{ℕ, ◌+◌, ◌-◌, ◌*◌, Bool, true, false, cond, List, [], ◌∷◌, ◌++◌, eqb}
use Rattle.octets.specs.Octets.{be_at}
use Rattle.layout.specs.Fields.{Run, run}
use Rattle.product.specs.declared.templates.PartKind.{PartKind}
use Rattle.product.specs.declared.templates.PartKind.TheVariants.{None as no_part, Ensemble, Cluster, Probability, Aerosol}

-- ---- the table

-- where n or Nc stands: at an octet; or the template has no such count, where the table is blank
pub data CountAt : Type 0 where
  no_count : CountAt
  at_octet : ℕ → CountAt

-- a template: its number; the part that a record of it carries; by how many octets a part that stands ahead of the generating process moves
-- what follows; the octets before the coordinate values, but for time ranges and members; where n stands, and where Nc
pub record TemplateRow : Type 0 where
  pub number : ℕ
  pub part : PartKind
  pub moved : ℕ
  pub octets : ℕ
  pub ranges : CountAt
  pub members : CountAt

abbrev pub template : ℕ → PartKind → ℕ → ℕ → CountAt → CountAt → TemplateRow
template number part moved octets ranges members =
    record { number = number; part = part; moved = moved; octets = octets; ranges = ranges; members = members }

-- number, part, moved, octets, n at, Nc at
abbrev pub templates₄ : List TemplateRow
templates₄ =
    template 0 no_part 0 34 no_count no_count
    ∷ template 1 Ensemble 0 37 no_count no_count
    ∷ template 4 Cluster 0 64 no_count (at_octet 54)
    ∷ template 5 Probability 0 47 no_count no_count
    ∷ template 8 no_part 0 46 (at_octet 42) no_count
    ∷ template 9 Probability 0 59 (at_octet 55) no_count
    ∷ template 11 Ensemble 0 49 (at_octet 45) no_count
    ∷ template 14 Cluster 0 76 (at_octet 72) (at_octet 54)
    ∷ template 46 Aerosol 13 59 (at_octet 55) no_count
    ∷ []

-- the count that stands there in a section; 0 where the template has none
abbrev pub count_in : CountAt → List ℕ → ℕ
count_in no_count s = 0
count_in (at_octet p) s = be_at s p 1

-- a template with time ranges speaks of an interval, the others of a point in time
abbrev pub has_count : CountAt → Bool
has_count no_count = false
has_count (at_octet p) = true

abbrev pub is_timed : TemplateRow → Bool
is_timed row = has_count row.ranges

-- ---- the octets of each field

-- length, section number, NV, template; category and number of the parameter
abbrev octets1to11 : List Run
octets1to11 = run 1 4 ∷ run 5 1 ∷ run 6 2 ∷ run 8 2 ∷ run 10 1 ∷ run 11 1 ∷ []

-- process: type, background, identifier; cut-off: hours, minutes; unit, forecast time; of each surface: type, scale factor, value
abbrev octets12to34 : List Run
octets12to34 =
    run 12 1
    ∷ run 13 1
    ∷ run 14 1
    ∷ run 15 2
    ∷ run 17 1
    ∷ run 18 1
    ∷ run 19 4
    ∷ run 23 1
    ∷ run 24 1
    ∷ run 25 4
    ∷ run 29 1
    ∷ run 30 1
    ∷ run 31 4
    ∷ []

-- ensemble: type of forecast, perturbation, number of forecasts
abbrev octets35to37 : List Run
octets35to37 = run 35 1 ∷ run 36 1 ∷ run 37 1 ∷ []

-- probability: number, how many, type; of each limit: scale factor, value
abbrev octets35to47 : List Run
octets35to47 = run 35 1 ∷ run 36 1 ∷ run 37 1 ∷ run 38 1 ∷ run 39 4 ∷ run 43 1 ∷ run 44 4 ∷ []

-- cluster: derived forecast, number of forecasts, identifier, the controls' clusters, how many clusters, method; latitude, longitude, radius;
-- Nc; of deviation and distance: scale factor, value
abbrev octets35to64 : List Run
octets35to64 =
    run 35 1
    ∷ run 36 1
    ∷ run 37 1
    ∷ run 38 1
    ∷ run 39 1
    ∷ run 40 1
    ∷ run 41 1
    ∷ run 42 4
    ∷ run 46 4
    ∷ run 50 4
    ∷ run 54 1
    ∷ run 55 1
    ∷ run 56 4
    ∷ run 60 1
    ∷ run 61 4
    ∷ []

-- aerosol: type, type of the interval of sizes; of each size: scale factor, value; behind it, 13 octets later, what the others have at 12-34
abbrev octets12to47 : List Run
octets12to47 =
    run 12 2
    ∷ run 14 1
    ∷ run 15 1
    ∷ run 16 4
    ∷ run 20 1
    ∷ run 21 4
    ∷ run 25 1
    ∷ run 26 1
    ∷ run 27 1
    ∷ run 28 2
    ∷ run 30 1
    ∷ run 31 1
    ∷ run 32 4
    ∷ run 36 1
    ∷ run 37 1
    ∷ run 38 4
    ∷ run 42 1
    ∷ run 43 1
    ∷ run 44 4
    ∷ []

-- if n stands at octet p: year, month, day, hour, minute and second of the end of the interval; n; the missing count
abbrev octets_around : ℕ → List Run
octets_around p =
    run (p - 7) 2
    ∷ run (p - 5) 1
    ∷ run (p - 4) 1
    ∷ run (p - 3) 1
    ∷ run (p - 2) 1
    ∷ run (p - 1) 1
    ∷ run p 1
    ∷ run (p + 1) 4
    ∷ []

-- from an octet on: n time ranges, nc member numbers, nv coordinate values; a list that the template lacks has no octets
abbrev octets_from : ℕ → ℕ → ℕ → ℕ → List Run
octets_from first n nc nv = run first (12 * n) ∷ run (first + 12 * n) nc ∷ run (first + 12 * n + nc) (4 * nv) ∷ []

-- by the template's number, n, Nc and NV
abbrev pub octets₄ : ℕ → ℕ → ℕ → ℕ → List Run
octets₄ number n nc nv =
    octets1to11
    ++ (cond (eqb number 0) (octets12to34 ++ octets_from 35 0 0 nv)
    (cond (eqb number 1) (octets12to34 ++ (octets35to37 ++ octets_from 38 0 0 nv))
    (cond (eqb number 4) (octets12to34 ++ (octets35to64 ++ octets_from 65 0 nc nv))
    (cond (eqb number 5) (octets12to34 ++ (octets35to47 ++ octets_from 48 0 0 nv))
    (cond (eqb number 8) (octets12to34 ++ (octets_around 42 ++ octets_from 47 n 0 nv))
    (cond (eqb number 9) (octets12to34 ++ (octets35to47 ++ (octets_around 55 ++ octets_from 60 n 0 nv)))
    (cond (eqb number 11) (octets12to34 ++ (octets35to37 ++ (octets_around 45 ++ octets_from 50 n 0 nv)))
    (cond (eqb number 14) (octets12to34 ++ (octets35to64 ++ (octets_around 72 ++ octets_from 77 n nc nv)))
    (cond (eqb number 46) (octets12to47 ++ (octets_around 55 ++ octets_from 60 n 0 nv))
    [])))))))))
