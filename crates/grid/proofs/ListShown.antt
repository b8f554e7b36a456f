-- What `list` shows of an accepted section: those very octets that follow the base, whose numbers sum to the points. A refused
-- section, and one without a list, shows none.
-- Assumes nothing.
use Prim.Native.Nat.{ℕ, ◌+◌}
use native.Mathlib.Omega.{arith}
use mathlib.Core.Path.{◌≡◌, ap, sym, ◌∙◌}
use mathlib.Core.List.{List, []}
use mathlib.Core.Bool.{true}
use lib.ListN.{length, take, drop, length-drop, drop_of_length-le}
use lib.Seq.{take_all}
use Rattle.octets.specs.Octets.{part, be_at}
use Rattle.octets.proofs.Laws.{part-take}
use Rattle.layout.specs.Outcomes.{refused, if_read}
use Rattle.layout.specs.Spans.{nowhere, span_after, Within}
use Rattle.layout.specs.declared.Span.{Span}
use Rattle.layout.proofs.Outcomes.{of-both}
use Rattle.layout.proofs.Spans.{octets-after, after-within}
use Rattle.grid.specs.Blocks.{has_list}
use Rattle.grid.specs.Templates.{base_end, list_width, list_count, list_octets, template_named}
use Rattle.grid.specs.Points.{sum_of}
use Rattle.grid.specs.Section3.{outcome₃}
use Rattle.grid.specs.Views.{list_span, list₃}
use Rattle.grid.specs.Accepted.{Follows₃, NoList}
use Rattle.grid.specs.declared.templates.Template.{Template}
use Rattle.grid.proofs.Listed.{sum-dropped}
use Rattle.grid.proofs.AcceptedExactlyWhen.{names-it, all-fits, points-listed, accepted-follows, follows-accepted}

pub refused-shows-none : (s : List ℕ) (number section place : ℕ) → outcome₃ s ≡ refused number section place → list₃ s ≡ []
unfolding list_span if_read
refused-shows-none s number section place e = rw e

module _ (template : Template) (s : List ℕ) (f : Follows₃ template s) where
  whole : length s ≡ base_end template + list_octets s
  whole = (all-fits template s f.list).whole

  stretch : list₃ s ≡ take (list_octets s) (drop (base_end template) s)
  unfolding list_span if_read
  stretch = rw (follows-accepted template s f, names-it template s f) (octets-after (base_end template) (list_octets s) s)

  behind : list₃ s ≡ drop (base_end template) s
  behind = stretch ∙ take_all (list_octets s) (drop (base_end template) s) (simp length-drop (omega (arith, whole)))

  pub those-very-octets : list₃ s ≡ part s (1 + base_end template) (list_octets s)
  those-very-octets =
      let at : base_end template + 1 ≡ 1 + base_end template = omega arith in
      rw (← at) (stretch ∙ sym (part-take s (base_end template) (list_octets s) (omega (arith, whole))))

  pub points-are-its-sum : has_list (list_width s) ≡ true → be_at s 7 4 ≡ sum_of 0 (list_width s) (list₃ s) (list_count s)
  points-are-its-sum w =
      (all-fits template s f.list).points
      ∙ points-listed template s w
      ∙ sym (sum-dropped (base_end template) (list_width s) (list_count s) s)
      ∙ ap (λ (l : List ℕ). sum_of 0 (list_width s) l (list_count s)) (sym behind)

  pub without-a-list : NoList template s → list₃ s ≡ []
  without-a-list n = behind ∙ drop_of_length-le s {i = base_end template} (omega (arith, n.whole))

-- where it is said to stand, the section has its octets
pub list-within : (s : List ℕ) → Within (list_span s) s
unfolding list_span
list-within s =
    of-both (λ (x : Span). Within x s) (outcome₃ s) (span_after (base_end (template_named s)) (list_octets s)) nowhere (omega arith)
    (λ vs e.
    let f = accepted-follows s vs e in
    after-within (base_end (template_named s)) (list_octets s) s (rw (names-it f.0 s f.1) (omega (arith, whole f.0 s f.1))))
