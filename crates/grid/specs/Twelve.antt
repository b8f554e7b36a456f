-- Refusal 12 as document 01 had it before request 10 took it out: without a list, Ni x Nj above 64 bits. It stands here only for the theorem that
-- taking it out changed no outcome (`proofs/WithoutTwelve.antt`): no contract cites it, no table lists it, and no function gives it.
-- Assumes nothing.
use Rattle.std.specs.Prelude.{ℕ, ◌*◌, ◌^◌, List, [], ◌∷◌, ◌++◌, Bool, ◌&&◌, ltb, leb, eqb, replicate}
use Rattle.octets.specs.Octets.{be_at, digits}
use Rattle.layout.specs.Fields.{after, bad_place}
use Rattle.layout.specs.Outcomes.{Outcome, read, reason, first_of, opening_reasons, template_reasons}
use Rattle.grid.specs.Templates.{template_named, base_end, fields₃, list_width, ni, nj, list_octets, total, values₃}
use Rattle.grid.specs.Agreement.{disagreement}
use Rattle.grid.specs.Points.{points_reasons}
use Rattle.grid.specs.declared.templates.Template.{Template}

-- without a list, Ni x Nj does not fit into 64 bits
unfoldable pub product_above : List ℕ → Bool
product_above s = eqb (list_width s) 0 && leb (2 ^ 64) (ni s * nj s)

-- `as_template` with 12 before 13
unfoldable pub as_template_with_twelve : Template → List ℕ → Outcome
as_template_with_twelve template s =
    first_of 3 (template_reasons (base_end template) (bad_place (after 0 (fields₃ template (list_octets s))) s) (disagreement s) (total template s) s)
    (first_of 3 (reason 12 (product_above s) ∷ points_reasons template s) (read (values₃ template s)))

-- `outcome₃` with it
unfoldable pub outcome_with_twelve : List ℕ → Outcome
outcome_with_twelve s =
    first_of 3 (opening_reasons 3 14 s) (first_of 3 (reason 6 (ltb 3 (be_at s 13 2)) ∷ []) (as_template_with_twelve (template_named s) s))

-- a grid 3.0 without a list whose number 31, the first of Ni, is no octet: of such a list of numbers 12 could be met
unfoldable pub numbers_no_octets : List ℕ
numbers_no_octets = digits 4 72 ++ (3 ∷ (replicate 25 0 ++ (2 ^ 40 ∷ replicate 41 2)))
