-- Request 03, grids with offset rows: without a list and with bit 8 of the scanning mode, octets 7-10 stand as they are. Beside it section 3's outcome
-- as it was before that request. All of it is only for the theorems on what the request changed (`proofs/OffsetRows.antt`): no contract cites it.
-- Assumes nothing.
use Rattle.std.specs.Prelude.{ℕ, ◌*◌, ◌%◌, ◌≡◌, List, [], ◌∷◌, not, cond, ltb, eqb, length, take, drop}
use Rattle.octets.specs.Octets.{be_at}
use Rattle.layout.specs.Fields.{after, bad_place}
use Rattle.layout.specs.Outcomes.{Outcome, refused, read, reason, first_of, opening_reasons, template_reasons}
use Rattle.grid.specs.Templates.{template_named, base_end, fields₃, list_width, ni, nj, list_count, list_octets, total, values₃}
use Rattle.grid.specs.Agreement.{disagreement}
use Rattle.grid.specs.Points.{sum_of}
use Rattle.grid.specs.Section3.{outcome₃}
use Rattle.grid.specs.declared.templates.Template.{Template}

-- no list, and bit 8 of the scanning mode in octet 72, the lowest, is set
pub record PointsStand (s : List ℕ) : Type 0 where
  pub no-list : be_at s 11 1 ≡ 0
  pub bit : be_at s 72 1 % 2 ≡ 1

-- a section as long as another, with the same octets but for octets 7-10
pub record OtherPoints (s t : List ℕ) : Type 0 where
  pub as_long : length t ≡ length s
  pub ahead : take 6 t ≡ take 6 s
  pub behind : drop 10 t ≡ drop 10 s

-- ---- before request 03

-- Ni x Nj, or the sum of the list
unfoldable pub points_before : Template → List ℕ → ℕ
points_before template s = cond (eqb (list_width s) 0) (ni s * nj s) (sum_of (base_end template) (list_width s) s (list_count s))

-- `as_template` with these
unfoldable pub as_template_before : Template → List ℕ → Outcome
as_template_before template s =
    first_of 3 (template_reasons (base_end template) (bad_place (after 0 (fields₃ template (list_octets s))) s) (disagreement s) (total template s) s)
    (first_of 3 (reason 13 (not (eqb (be_at s 7 4) (points_before template s))) ∷ []) (read (values₃ template s)))

-- `outcome₃` with it
unfoldable pub outcome_before : List ℕ → Outcome
outcome_before s =
    first_of 3 (opening_reasons 3 14 s) (first_of 3 (reason 6 (ltb 3 (be_at s 13 2)) ∷ []) (as_template_before (template_named s) s))

-- a section that was refused with 13 for its Ni x Nj, and is read now
pub record Freed (s : List ℕ) : Type 0 where
  pub stand : PointsStand s
  pub differ : be_at s 7 4 ≡ be_at s 31 4 * be_at s 35 4 → ⊥
  pub before : outcome_before s ≡ refused 13 3 0
  pub now : outcome₃ s ≡ read (values₃ (template_named s) s)
