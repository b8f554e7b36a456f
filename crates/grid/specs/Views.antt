-- The list that a caller is shown: the octets behind the base, and none of a refused section.
-- Assumes nothing.
use Rattle.std.specs.Prelude.{ℕ, List}
use Rattle.layout.specs.Outcomes.{if_read}
use Rattle.layout.specs.Spans.{nowhere, span_after, octets_in}
use Rattle.layout.specs.declared.Span.{Span}
use Rattle.grid.specs.Templates.{template_named, base_end, list_octets}
use Rattle.grid.specs.Section3.{outcome₃}

unfoldable pub list_span : List ℕ → Span
list_span s = if_read (outcome₃ s) (span_after (base_end (template_named s)) (list_octets s)) nowhere

abbrev pub list₃ : List ℕ → List ℕ
list₃ s = octets_in (list_span s) s
