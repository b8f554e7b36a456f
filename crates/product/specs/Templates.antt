-- Section 4's templates as runs of blocks, where these stand, and the total.
-- Assumes nothing.
use Rattle.std.specs.Prelude.{List, [], ◌∷◌, ◌++◌, ℕ, ◌+◌, ◌*◌, Bool, true, false, cond, ◌&&◌, eqb, Option, Some, None, Result, Ok, Err}
use Rattle.layout.specs.Fields.{Value, Field, lacking, tag, shown, after, values_of}
use Rattle.layout.specs.Outcomes.{refusal}
use Rattle.layout.specs.declared.Refusal.{Refusal}
use Rattle.octets.specs.Octets.{be_at}
use Rattle.product.specs.Blocks.{head, parameter, common, ensemble, cluster, probability, aerosol, interval}
use Rattle.product.specs.declared.templates.PartKind.{PartKind}
use Rattle.product.specs.declared.templates.PartKind.TheVariants.{None as no_part, Ensemble, Cluster, Probability, Aerosol}
use Rattle.product.specs.declared.templates.Template.{Template}

-- a template with such a part, and time ranges or none
abbrev pub listed : PartKind → Bool → Option Template
listed kind timed = Some (record { kind = kind; timed = timed })

-- each has a part or none; a timed one has the end of an interval and time ranges, and the others speak of a point in time
unfoldable pub template_of : ℕ → Option Template
template_of number =
    cond (eqb number 0) (listed no_part false)
    (cond (eqb number 1) (listed Ensemble false)
    (cond (eqb number 4) (listed Cluster false)
    (cond (eqb number 5) (listed Probability false)
    (cond (eqb number 8) (listed no_part true)
    (cond (eqb number 9) (listed Probability true)
    (cond (eqb number 11) (listed Ensemble true)
    (cond (eqb number 14) (listed Cluster true)
    (cond (eqb number 46) (listed Aerosol true)
    None))))))))

-- as a program's answer: 6 where none is listed
abbrev pub listed_or_6 : Option Template → Result Template Refusal
listed_or_6 None = Err (refusal 6 4 0)
listed_or_6 (Some t) = Ok t

-- what stands between the parameter and the generating process
unfoldable pub ahead : PartKind → List Field
ahead no_part = []
ahead Ensemble = []
ahead Cluster = []
ahead Probability = []
ahead Aerosol = aerosol

-- what follows the surfaces
unfoldable pub behind : PartKind → List Field
behind no_part = []
behind Ensemble = ensemble
behind Cluster = cluster
behind Probability = probability
behind Aerosol = []

-- the number that says which of a record's parts it is
abbrev pub part_tag : PartKind → ℕ
part_tag no_part = 0
part_tag Ensemble = 1
part_tag Cluster = 2
part_tag Probability = 3
part_tag Aerosol = 4

-- everything up to the generating process
unfoldable pub front : PartKind → List Field
front kind = head ++ (tag (part_tag kind) ∷ (parameter ++ ahead kind))

-- the end of the interval and n time ranges of 12 octets; a template of a point in time has neither
unfoldable pub time_ranges : Bool → ℕ → List Field
time_ranges true n = interval ++ (shown (12 * n) ∷ [])
time_ranges false n = lacking ∷ shown 0 ∷ []

-- nc member numbers and nv coordinate values of 4 octets
unfoldable pub lists : ℕ → ℕ → List Field
lists nc nv = shown nc ∷ shown (4 * nv) ∷ []

unfoldable pub fields₄ : PartKind → Bool → ℕ → ℕ → ℕ → List Field
fields₄ kind timed n nc nv = front kind ++ (common ++ (behind kind ++ (time_ranges timed n ++ lists nc nv)))

-- ---- where they stand

-- the octet after which the generating process stands
abbrev pub front_end : PartKind → ℕ
front_end no_part = 11
front_end Ensemble = 11
front_end Cluster = 11
front_end Probability = 11
front_end Aerosol = 24

-- the octet after which the end of the interval stands, where there is one
abbrev pub part_end : PartKind → ℕ
part_end no_part = 34
part_end Ensemble = 37
part_end Cluster = 64
part_end Probability = 47
part_end Aerosol = 47

-- the octet at which n time ranges end: the end of the interval, with n and the missing count, has 12 octets before them
unfoldable pub ranges_end : PartKind → Bool → ℕ → ℕ
ranges_end kind timed n = cond timed (part_end kind + 12 + 12 * n) (part_end kind)

-- the octets of a section with n time ranges, nc members and nv coordinate values
unfoldable pub total : PartKind → Bool → ℕ → ℕ → ℕ → ℕ
total kind timed n nc nv = ranges_end kind timed n + nc + 4 * nv

-- ---- what the section's own octets say

-- n, Nc and NV; 0 where the template has none
unfoldable pub ranges_at : PartKind → Bool → List ℕ → ℕ
ranges_at kind timed s = cond timed (be_at s (part_end kind + 8) 1) 0

abbrev pub members_at : PartKind → List ℕ → ℕ
members_at no_part s = 0
members_at Ensemble s = 0
members_at Cluster s = be_at s 54 1
members_at Probability s = 0
members_at Aerosol s = 0

abbrev pub coordinates_at : List ℕ → ℕ
coordinates_at s = be_at s 6 2

-- 9 where time ranges should be there and n is 0, and else 0
abbrev pub lack_of_ranges : Bool → ℕ → ℕ
lack_of_ranges timed n = cond (timed && eqb n 0) 9 0

-- the fields, the total and the values of a section, by its own counts
abbrev pub fields_in : PartKind → Bool → List ℕ → List Field
fields_in kind timed s = fields₄ kind timed (ranges_at kind timed s) (members_at kind s) (coordinates_at s)

abbrev pub total_in : PartKind → Bool → List ℕ → ℕ
total_in kind timed s = total kind timed (ranges_at kind timed s) (members_at kind s) (coordinates_at s)

abbrev pub values₄ : PartKind → Bool → List ℕ → List Value
values₄ kind timed s = values_of (after 0 (fields_in kind timed s)) s
