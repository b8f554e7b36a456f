-- Section 4's fields block by block: where the blocks stand, and what they make of the blocks' octets, values and ranges.
-- Assumes nothing.
use Prim.Native.Nat.{ℕ, ◌+◌, ◌*◌, ◌≤◌}
use native.Mathlib.Nat.{zero-add}
use native.Mathlib.Omega.{arith}
use mathlib.Core.Path.{◌≡◌, refl, ◌∙◌}
use mathlib.Core.List.{List, [], ◌∷◌, ◌++◌}
use mathlib.Core.Bool.{Bool, true, false, cond}
use Rattle.octets.specs.Octets.{part, be_at}
use Rattle.layout.specs.Fields.{Value, none, which, plain, width_of, placed, after, not_ones, lowest_bad, bad_place, values_of}
use Rattle.layout.specs.Outcomes.{and_check, if_allowed, all_allowed}
use Rattle.layout.proofs.Outcomes.{and_passed, allowed_meet}
use Rattle.std.specs.Prelude.{Ok}
use Rattle.layout.specs.Shown.{shown_of}
use Rattle.layout.specs.Time.{time}
use Rattle.layout.proofs.Blocks.{width-append, values-meet, bad-meet, moved}
use Rattle.layout.proofs.Shown.{shown-meet}
use Rattle.product.specs.Blocks.{head, parameter, process, forecast, scaled, surface, common, ensemble, cluster, probability, aerosol, interval}
use Rattle.product.specs.Templates.{ahead, behind, part_tag, front, time_ranges, lists, fields₄, front_end, part_end, ranges_end, total}
use Rattle.product.specs.declared.templates.PartKind.{PartKind}
use Rattle.product.specs.declared.templates.PartKind.TheVariants.{None as no_part, Ensemble, Cluster, Probability, Aerosol}

-- ---- what goes by the kind of part: a line for each

-- up to which octet the blocks before the generating process go; nothing in them is ever out of range, and nothing is shown
front-facts : (kind : PartKind) → (width_of (front kind) ≡ front_end kind) × ((s : List ℕ) (later : ℕ) → lowest_bad (after 0 (front kind)) s later ≡ later) × ((s : List ℕ) → shown_of (after 0 (front kind)) s ≡ []) × ((s : List ℕ) → all_allowed 4 (after 0 (front kind)) s ≡ Ok tt)
unfolding width_of lowest_bad shown_of all_allowed and_check placed front head parameter ahead aerosol scaled
front-facts no_part = (refl, λ s later. refl, λ s. refl, λ s. refl)
front-facts Ensemble = (refl, λ s later. refl, λ s. refl, λ s. refl)
front-facts Cluster = (refl, λ s later. refl, λ s. refl, λ s. refl)
front-facts Probability = (refl, λ s later. refl, λ s. refl, λ s. refl)
front-facts Aerosol = (refl, λ s later. refl, λ s. refl, λ s. refl)

-- the same of what follows the surfaces
behind-facts : (kind : PartKind) → ((front_end kind + 23) + width_of (behind kind) ≡ part_end kind) × ((end : ℕ) (s : List ℕ) (later : ℕ) → lowest_bad (after end (behind kind)) s later ≡ later) × ((end : ℕ) (s : List ℕ) → shown_of (after end (behind kind)) s ≡ []) × ((end : ℕ) (s : List ℕ) → all_allowed 4 (after end (behind kind)) s ≡ Ok tt)
unfolding width_of lowest_bad shown_of all_allowed and_check placed behind ensemble cluster probability scaled
behind-facts no_part = (refl, λ end s later. refl, λ end s. refl, λ end s. refl)
behind-facts Ensemble = (refl, λ end s later. refl, λ end s. refl, λ end s. refl)
behind-facts Cluster = (refl, λ end s later. refl, λ end s. refl, λ end s. refl)
behind-facts Probability = (refl, λ end s later. refl, λ end s. refl, λ end s. refl)
behind-facts Aerosol = (refl, λ end s later. refl, λ end s. refl, λ end s. refl)

pub front_small : (kind : PartKind) → front_end kind ≤ 24
front_small no_part = omega arith
front_small Ensemble = omega arith
front_small Cluster = omega arith
front_small Probability = omega arith
front_small Aerosol = omega arith

pub part-enough : (kind : PartKind) → 23 ≤ part_end kind
part-enough kind = omega (arith, (behind-facts kind).0)

-- ---- what goes by whether there are time ranges

common-width : width_of common ≡ 23
unfolding width_of common process forecast surface scaled
common-width = refl

common-shows : (end : ℕ) (s : List ℕ) → shown_of (after end common) s ≡ []
unfolding shown_of placed common process forecast surface scaled
common-shows end s = refl

tail-width : (kind : PartKind) (timed : Bool) (n nc nv : ℕ) → part_end kind + width_of (time_ranges timed n ++ lists nc nv) ≡ total kind timed n nc nv
unfolding width_of time_ranges lists interval time total ranges_end
tail-width kind true n nc nv = omega arith
tail-width kind false n nc nv = omega arith

tail-values : (timed : Bool) (end n nc nv : ℕ) (s : List ℕ) → values_of (after end (time_ranges timed n ++ lists nc nv)) s ≡ cond timed (values_of (after end interval) s) (none ∷ [])
unfolding values_of placed time_ranges lists interval time
tail-values true end n nc nv s = refl
tail-values false end n nc nv s = refl

tail-bad : (timed : Bool) (end n nc nv : ℕ) (s : List ℕ) → bad_place (after end (time_ranges timed n ++ lists nc nv)) s ≡ cond timed (bad_place (after end interval) s) 0
unfolding lowest_bad placed time_ranges lists interval time
tail-bad true end n nc nv s = refl
tail-bad false end n nc nv s = refl

common-allowed : (end : ℕ) (s : List ℕ) → all_allowed 4 (after end common) s ≡ if_allowed 4 (end + 8) (not_ones 4 (be_at s (end + 8) 4))
unfolding all_allowed and_check placed common process forecast surface scaled
common-allowed end s = and_passed _

tail-allowed : (timed : Bool) (end n nc nv : ℕ) (s : List ℕ) → all_allowed 4 (after end (time_ranges timed n ++ lists nc nv)) s ≡ cond timed (all_allowed 4 (after end interval) s) (Ok tt)
unfolding all_allowed and_check placed time_ranges lists interval time
tail-allowed true end n nc nv s = refl
tail-allowed false end n nc nv s = refl

-- the ranges, the members and the coordinates, each after the octet at which the one before it ends
tail-shows : (kind : PartKind) (timed : Bool) (n nc nv : ℕ) (s : List ℕ) → shown_of (after (part_end kind) (time_ranges timed n ++ lists nc nv)) s ≡ cond timed (part s (part_end kind + 12 + 1) (12 * n)) [] ∷ part s (ranges_end kind timed n + 1) nc ∷ part s (ranges_end kind timed n + nc + 1) (4 * nv) ∷ []
unfolding shown_of placed time_ranges lists interval time ranges_end part
tail-shows kind true n nc nv s =
    let ranges : part_end kind + 13 ≡ part_end kind + 12 + 1 = omega arith in
    let members : part_end kind + (13 + 12 * n) ≡ part_end kind + 12 + 12 * n + 1 = omega arith in
    let coordinates : part_end kind + (13 + 12 * n + nc) ≡ part_end kind + 12 + 12 * n + nc + 1 = omega arith in
    rw (ranges, members, coordinates)
tail-shows kind false n nc nv s =
    let coordinates : part_end kind + (1 + nc) ≡ part_end kind + nc + 1 = omega arith in
    rw coordinates

-- ---- blocks made of blocks

-- the fields that every template has
pub common-values : (end : ℕ) (s : List ℕ) {ps fs xs ys : List Value} → ps ≡ values_of (after end process) s → fs ≡ values_of (after (end + 6) forecast) s → xs ≡ values_of (after (end + 11) surface) s → ys ≡ values_of (after (end + 17) surface) s → ps ++ (fs ++ (xs ++ ys)) ≡ values_of (after end common) s
unfolding values_of placed common process forecast surface scaled
common-values end s p f x y =
    λ i. p i ++ ((f ∙ moved end 6 forecast s) i ++ ((x ∙ moved end 11 surface s) i ++ (y ∙ moved end 17 surface s) i))

-- two numbers with scale factors, as limits and sizes are: 3 octets after the start of their part
pub both_scaled : (end : ℕ) (s : List ℕ) {xs ys : List Value} → xs ≡ values_of (after (end + 3) scaled) s → ys ≡ values_of (after (end + 8) scaled) s → xs ++ ys ≡ values_of (placed end 4 (scaled ++ scaled)) s
unfolding values_of placed scaled
both_scaled end s p q = λ i. (p ∙ moved end 3 scaled s) i ++ (q ∙ moved end 8 scaled s) i

-- ---- every template

front-values : (kind : PartKind) (s : List ℕ) → values_of (after 0 (front kind)) s ≡ values_of (after 0 head) s ++ (which (part_tag kind) ∷ (values_of (after 9 parameter) s ++ values_of (after 11 (ahead kind)) s))
unfolding values_of placed front head parameter
front-values kind s = rw (moved 0 11 (ahead kind) s)

module _ (kind : PartKind) (timed : Bool) (n nc nv : ℕ) where
  -- the total is the fields' octets
  pub total-is : width_of (fields₄ kind timed n nc nv) ≡ total kind timed n nc nv
  unfolding fields₄
  total-is =
      rw (width-append (front kind), width-append common, width-append (behind kind))
      (omega (arith, (front-facts kind).0, common-width, (behind-facts kind).0, tail-width kind timed n nc nv))

  -- only the forecast time and the end of the interval can be out of range
  pub bad-is : (s : List ℕ) → bad_place (after 0 (fields₄ kind timed n nc nv)) s ≡ lowest_bad (after (front_end kind) common) s (cond timed (bad_place (after (part_end kind) interval) s) 0)
  unfolding fields₄
  bad-is s =
      rw (bad-meet 0 (front kind), zero-add (width_of (front kind)), (front-facts kind).0, (front-facts kind).1 s)
      (rw (bad-meet (front_end kind) common, common-width)
      (rw (bad-meet (front_end kind + 23) (behind kind), (behind-facts kind).0, (behind-facts kind).1, tail-bad)))

  -- so these are checked, the forecast time first
  pub allowed_is : (s : List ℕ) → all_allowed 4 (after 0 (fields₄ kind timed n nc nv)) s ≡ and_check (if_allowed 4 (front_end kind + 8) (not_ones 4 (be_at s (front_end kind + 8) 4))) (cond timed (all_allowed 4 (after (part_end kind) interval) s) (Ok tt))
  unfolding fields₄ and_check
  allowed_is s =
      rw (allowed_meet 4 0 (front kind), zero-add (width_of (front kind)), (front-facts kind).0, (front-facts kind).3 s)
      (rw (allowed_meet 4 (front_end kind) common, common-width, common-allowed)
      (rw (allowed_meet 4 (front_end kind + 23) (behind kind), (behind-facts kind).0, (behind-facts kind).3, tail-allowed)))

  after_front : (s : List ℕ) → values_of (after 0 (fields₄ kind timed n nc nv)) s ≡ values_of (after 0 (front kind)) s ++ (values_of (after (front_end kind) common) s ++ (values_of (after (front_end kind + 23) (behind kind)) s ++ cond timed (values_of (after (part_end kind) interval) s) (none ∷ [])))
  unfolding fields₄
  after_front s =
      rw (values-meet 0 (front kind), zero-add (width_of (front kind)), (front-facts kind).0)
      (rw (values-meet (front_end kind) common, common-width)
      (rw (values-meet (front_end kind + 23) (behind kind), (behind-facts kind).0, tail-values)))

  -- what a record holds, block by block
  pub values-are : (s : List ℕ) → values_of (after 0 (fields₄ kind timed n nc nv)) s ≡ values_of (after 0 head) s ++ (which (part_tag kind) ∷ (values_of (after 9 parameter) s ++ (values_of (after 11 (ahead kind)) s ++ (values_of (after (front_end kind) common) s ++ (values_of (after (front_end kind + 23) (behind kind)) s ++ cond timed (values_of (after (part_end kind) interval) s) (none ∷ []))))))
  unfolding values_of placed head parameter
  values-are s = rw (after_front s, front-values kind s)

  -- field by field up to the part's tag, and block by block behind it
  pub section4_values : (s : List ℕ) → values_of (after 0 (fields₄ kind timed n nc nv)) s ≡ plain (be_at s 1 4)
      ∷ plain (be_at s 5 1)
      ∷ plain (be_at s 6 2)
      ∷ plain (be_at s 8 2)
      ∷ which (part_tag kind)
      ∷ (values_of (after 9 parameter) s
      ++ (values_of (after 11 (ahead kind)) s
      ++ ((values_of (after (front_end kind) process) s ++ (values_of (after (front_end kind + 6) forecast) s ++ (values_of (after (front_end kind + 11) surface) s ++ values_of (after (front_end kind + 17) surface) s)))
      ++ (values_of (after (front_end kind + 23) (behind kind)) s
      ++ cond timed (values_of (after (part_end kind) interval) s) (none ∷ [])))))
  unfolding values_of placed head
  section4_values s = rw (values-are s, common-values (front_end kind) s refl refl refl refl)

  -- what a caller is shown
  pub shown-are : (s : List ℕ) → shown_of (after 0 (fields₄ kind timed n nc nv)) s ≡ cond timed (part s (part_end kind + 12 + 1) (12 * n)) [] ∷ part s (ranges_end kind timed n + 1) nc ∷ part s (ranges_end kind timed n + nc + 1) (4 * nv) ∷ []
  unfolding fields₄
  shown-are s =
      rw (shown-meet 0 (front kind), zero-add (width_of (front kind)), (front-facts kind).0, (front-facts kind).2 s)
      (rw (shown-meet (front_end kind) common, common-width, common-shows)
      (rw (shown-meet (front_end kind + 23) (behind kind), (behind-facts kind).0, (behind-facts kind).2, tail-shows)))
