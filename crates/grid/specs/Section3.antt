-- Section 3, as document 01 has it: its outcome.
-- Assumes nothing.
use Rattle.std.specs.Prelude.{ℕ, List, [], ◌∷◌, ltb}
use Rattle.octets.specs.Octets.{be_at}
use Rattle.layout.specs.Fields.{after, bad_place}
use Rattle.layout.specs.Outcomes.{Outcome, read, reason, first_of, opening_reasons, template_reasons}
use Rattle.grid.specs.Templates.{template_named, base_end, fields₃, list_octets, total, values₃}
use Rattle.grid.specs.Agreement.{disagreement}
use Rattle.grid.specs.Points.{points_reasons}
use Rattle.grid.specs.declared.templates.Template.{Template}

-- 7, 8, 10 and the total's 11 and 21, once the template is known, and then the points
unfoldable pub as_template : Template → List ℕ → Outcome
as_template template s =
    first_of 3 (template_reasons (base_end template) (bad_place (after 0 (fields₃ template (list_octets s))) s) (disagreement s) (total template s) s)
    (first_of 3 (points_reasons template s) (read (values₃ template s)))

-- 5: under 14 octets; 6: the template number is above 3
unfoldable pub outcome₃ : List ℕ → Outcome
outcome₃ s = first_of 3 (opening_reasons 3 14 s) (first_of 3 (reason 6 (ltb 3 (be_at s 13 2)) ∷ []) (as_template (template_named s) s))
