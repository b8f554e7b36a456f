-- What a caller is shown of a section 4: a time range, the members, the coordinates, as those very octets of the section.
-- Assumes nothing.
use Rattle.std.specs.Prelude.{ℕ, zero, suc, ◌+◌, ◌*◌, List, [], ◌++◌, cond, ltb, Option, Some, None}
use Rattle.octets.specs.Octets.{be_at}
use Rattle.layout.specs.Outcomes.{if_read}
use Rattle.layout.specs.Spans.{nowhere, span_after, octets_in}
use Rattle.layout.specs.declared.Span.{Span}
use Rattle.product.specs.Templates.{template_of, part_end, ranges_end, ranges_at, members_at, coordinates_at}
use Rattle.product.specs.Section4.{outcome₄}
use Rattle.product.specs.declared.templates.Template.{Template}

-- the template by which a section is read; a refused section has none
abbrev pub template_read : List ℕ → Option Template
template_read s = if_read (outcome₄ s) (template_of (be_at s 8 2)) None

-- ---- where they stand

-- the k-th time range (from 0): 12 octets; nowhere from n up
unfoldable pub range_by : Option Template → List ℕ → ℕ → Span
range_by None s k = nowhere
range_by (Some t) s k = cond (ltb k (ranges_at t.kind t.timed s)) (span_after (part_end t.kind + 12 + 12 * k) 12) nowhere

-- the Nc member numbers follow the ranges
unfoldable pub members_by : Option Template → List ℕ → Span
members_by None s = nowhere
members_by (Some t) s = span_after (ranges_end t.kind t.timed (ranges_at t.kind t.timed s)) (members_at t.kind s)

-- the NV coordinate values of 4 octets follow the members
unfoldable pub coordinates_by : Option Template → List ℕ → Span
coordinates_by None s = nowhere
coordinates_by (Some t) s =
    span_after (ranges_end t.kind t.timed (ranges_at t.kind t.timed s) + members_at t.kind s) (4 * coordinates_at s)

abbrev pub range_span : List ℕ → ℕ → Span
range_span s k = range_by (template_read s) s k

abbrev pub member_span : List ℕ → Span
member_span s = members_by (template_read s) s

abbrev pub coordinate_span : List ℕ → Span
coordinate_span s = coordinates_by (template_read s) s

-- ---- what is shown

abbrev pub range_of : List ℕ → ℕ → List ℕ
range_of s k = octets_in (range_span s k) s

abbrev pub members_of : List ℕ → List ℕ
members_of s = octets_in (member_span s) s

abbrev pub coordinates_of : List ℕ → List ℕ
coordinates_of s = octets_in (coordinate_span s) s

-- the first m of some lists, strung together
unfoldable pub first_strung : (ℕ → List ℕ) → ℕ → List ℕ
first_strung lists zero = []
first_strung lists (suc m) = first_strung lists m ++ lists m
