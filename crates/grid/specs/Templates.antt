-- Section 3's templates: their fields, the list behind the base, and the total.
-- Assumes nothing.
use Rattle.std.specs.Prelude.{ℕ, zero, suc, ◌+◌, ◌*◌, List, [], ◌∷◌, ◌++◌, Bool, cond, eqb, Result, Ok, Err}
use Rattle.octets.specs.Octets.{be_at, all_ones}
use Rattle.layout.specs.Fields.{Value, Field, shown, after, values_of}
use Rattle.layout.specs.Outcomes.{refusal}
use Rattle.layout.specs.declared.Refusal.{Refusal}
use Rattle.grid.specs.Blocks.{grid_head, common, poles}
use Rattle.grid.specs.declared.templates.Template.{Template}
use Rattle.grid.specs.declared.templates.Template.TheVariants.{LatLon, Rotated, Stretched, StretchedAndRotated}

-- the template of a number up to 3
unfoldable pub template_numbered : ℕ → Template
template_numbered zero = LatLon
template_numbered (suc zero) = Rotated
template_numbered (suc (suc zero)) = Stretched
template_numbered (suc (suc (suc n))) = StretchedAndRotated

-- the one that a section names in octets 13-14
abbrev pub template_named : List ℕ → Template
template_named s = template_numbered (be_at s 13 2)

-- what a program says of a number: its template, or 6
unfoldable pub listed_template : ℕ → Result Template Refusal
listed_template zero = Ok LatLon
listed_template (suc zero) = Ok Rotated
listed_template (suc (suc zero)) = Ok Stretched
listed_template (suc (suc (suc zero))) = Ok StretchedAndRotated
listed_template (suc (suc (suc (suc n)))) = Err (refusal 6 3 0)

-- the last octet of the base
abbrev pub base_end : Template → ℕ
base_end LatLon = 72
base_end Rotated = 84
base_end Stretched = 84
base_end StretchedAndRotated = 96

-- octets 1 to 14, 15 to 72, the poles, and behind the base the octets of the list
unfoldable pub fields₃ : Template → ℕ → List Field
fields₃ template octets = grid_head ++ (common ++ (poles template ++ (shown octets ∷ [])))

-- ---- what the section's own octets say

abbrev pub list_width : List ℕ → ℕ
list_width s = be_at s 11 1

abbrev pub interpretation : List ℕ → ℕ
interpretation s = be_at s 12 1

abbrev pub ni : List ℕ → ℕ
ni s = be_at s 31 4

abbrev pub nj : List ℕ → ℕ
nj s = be_at s 35 4

abbrev pub is_missing : ℕ → Bool
is_missing x = eqb x (all_ones 4)

-- Nj numbers if Ni is missing, else Ni numbers
unfoldable pub list_count : List ℕ → ℕ
list_count s = cond (eqb (list_width s) 0) 0 (cond (is_missing (ni s)) (nj s) (ni s))

abbrev pub list_octets : List ℕ → ℕ
list_octets s = list_width s * list_count s

abbrev pub total : Template → List ℕ → ℕ
total template s = base_end template + list_octets s

unfoldable pub values₃ : Template → List ℕ → List Value
values₃ template s = values_of (after 0 (fields₃ template (list_octets s))) s
