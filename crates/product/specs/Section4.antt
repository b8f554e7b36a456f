-- Section 4, as document 01 has it: its outcome.
-- Assumes nothing.
use Rattle.std.specs.Prelude.{ℕ, List, Bool, Option, Some, None}
use Rattle.octets.specs.Octets.{be_at}
use Rattle.layout.specs.Fields.{after, bad_place}
use Rattle.layout.specs.Outcomes.{Outcome, refused, read, first_of, opening_reasons, template_reasons}
use Rattle.product.specs.Templates.{template_of, total, ranges_at, lack_of_ranges, fields_in, total_in, values₄}
use Rattle.product.specs.declared.templates.PartKind.{PartKind}
use Rattle.product.specs.declared.templates.Template.{Template}

-- 7, 8, 9 and the total's 11 and 21, once the template is known; the smallest total has n = 1, no member and no coordinate
unfoldable pub as_template : PartKind → Bool → List ℕ → Outcome
as_template kind timed s =
    first_of 4 (template_reasons (total kind timed 1 0 0) (bad_place (after 0 (fields_in kind timed s)) s) (lack_of_ranges timed (ranges_at kind timed s)) (total_in kind timed s) s)
    (read (values₄ kind timed s))

-- 6: the template is not listed
unfoldable pub by_template : Option Template → List ℕ → Outcome
by_template None s = refused 6 4 0
by_template (Some t) s = as_template t.kind t.timed s

-- 5: under 9 octets
unfoldable pub outcome₄ : List ℕ → Outcome
outcome₄ s = first_of 4 (opening_reasons 4 9 s) (by_template (template_of (be_at s 8 2)) s)
