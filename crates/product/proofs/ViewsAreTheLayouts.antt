-- What a caller is shown of a section 4 are the octets that its template's layout has for the time ranges, the members and the
-- coordinates; where there are none, nothing is shown.
-- Assumes nothing.
use Prim.Native.Nat.{ℕ, zero, suc, ◌+◌, ◌*◌, ◌≤◌, ◌<◌}
use native.Mathlib.Omega.{arith}
use mathlib.Core.Path.{◌≡◌, refl, ap, sym, ◌∙◌}
use mathlib.Core.List.{List, [], ◌∷◌}
use mathlib.Core.Bool.{Bool, true, false, cond}
use lib.Dec.{ltb}
use lib.ListN.{length, length-take, length-drop}
use borrow.Author.Tests.{lt-ltb, le-ltb, ltb-true}
use Rattle.octets.specs.Octets.{part, be_at}
use Rattle.octets.proofs.Laws.{part-add, part-take}
use Rattle.layout.specs.Fields.{after}
use Rattle.layout.specs.Shown.{shown_of}
use Rattle.layout.specs.Outcomes.{refused, if_read}
use Rattle.layout.specs.Spans.{nowhere, span_after, octets_in, Within}
use Rattle.layout.specs.declared.Span.{Span}
use Rattle.layout.proofs.Outcomes.{of-both}
use Rattle.layout.proofs.Spans.{octets-after, after-within}
use Rattle.product.specs.Templates.{listed, template_of, part_end, ranges_end, total, ranges_at, members_at, coordinates_at, fields_in, total_in}
use Rattle.product.specs.Section4.{outcome₄}
use Rattle.product.specs.Views.{template_read, range_by, members_by, coordinates_by, range_span, member_span, coordinate_span, range_of, members_of, coordinates_of, first_strung}
use Rattle.product.specs.Table.{no_count, at_octet, TemplateRow, count_in, is_timed}
use Rattle.product.specs.Accepted.{Follows₄}
use Rattle.product.specs.declared.templates.PartKind.{PartKind}
use Rattle.product.specs.declared.templates.Template.{Template}
use Rattle.std.specs.Prelude.{Option, None}
use Rattle.product.proofs.FieldsByBlock.{shown-are}
use Rattle.product.proofs.TableAgrees.{table-count, table-ranges, table-members, table-end}
use Rattle.product.proofs.AcceptedExactlyWhen.{accepted-follows, follows-listed, follows-accepted, follows-total}

-- ---- a section that is read

template-is : (row : TemplateRow) (s : List ℕ) → Follows₄ row s → template_read s ≡ listed row.part (is_timed row)
unfolding if_read
template-is row s f = rw (follows-accepted row s f) (follows-listed row s f)

-- by a template, the k-th time range
abbrev range_shown : Option Template → List ℕ → ℕ → List ℕ
range_shown template s k = octets_in (range_by template s k) s

-- the first m time ranges, of 12 octets each, strung together
ranges-strung : (kind : PartKind) (s : List ℕ) → part_end kind + 12 + 12 * ranges_at kind true s ≤ length s → (m : ℕ) → m ≤ ranges_at kind true s → part s (part_end kind + 12 + 1) (12 * m) ≡ first_strung (range_shown (listed kind true) s) m
unfolding first_strung part range_by
ranges-strung kind s room zero h = refl
ranges-strung kind s room (suc m) h =
    let one_more : 12 * suc m ≡ 12 * m + 12 = omega arith in
    let next : part_end kind + 12 + 1 + 12 * m ≡ part_end kind + 12 + 12 * m + 1 = omega arith in
    rw (one_more, part-add, next, part-take s (part_end kind + 12 + 12 * m) 12 (omega arith), lt-ltb m (ranges_at kind true s) (omega arith), ranges-strung kind s room m (omega arith))

ranges-by : (kind : PartKind) (timed : Bool) (s : List ℕ) → length s ≡ total_in kind timed s → cond timed (part s (part_end kind + 12 + 1) (12 * ranges_at kind timed s)) [] ≡ first_strung (range_shown (listed kind timed) s) (ranges_at kind timed s)
unfolding total ranges_end ranges_at first_strung
ranges-by kind true s l = ranges-strung kind s (omega arith) (ranges_at kind true s) (omega arith)
ranges-by kind false s l = refl

-- the members and the coordinates
lists-by : (kind : PartKind) (timed : Bool) (s : List ℕ) → length s ≡ total_in kind timed s
    → (part s (ranges_end kind timed (ranges_at kind timed s) + 1) (members_at kind s) ≡ octets_in (members_by (listed kind timed) s) s)
    × (part s (ranges_end kind timed (ranges_at kind timed s) + members_at kind s + 1) (4 * coordinates_at s) ≡ octets_in (coordinates_by (listed kind timed) s) s)
unfolding total members_by coordinates_by
lists-by kind timed s l =
    let end = ranges_end kind timed (ranges_at kind timed s) in (
      part-take s end (members_at kind s) (omega arith) ∙ sym (octets-after end (members_at kind s) s),
      part-take s (end + members_at kind s) (4 * coordinates_at s) (omega arith)
          ∙ sym (octets-after (end + members_at kind s) (4 * coordinates_at s) s),
    )

views-by : (kind : PartKind) (timed : Bool) (s : List ℕ) → length s ≡ total_in kind timed s → shown_of (after 0 (fields_in kind timed s)) s ≡ first_strung (range_shown (listed kind timed) s) (ranges_at kind timed s) ∷ octets_in (members_by (listed kind timed) s) s ∷ octets_in (coordinates_by (listed kind timed) s) s ∷ []
views-by kind timed s l =
    let lists = lists-by kind timed s l in
    rw (shown-are, ranges-by kind timed s l, lists.0, lists.1)

-- the three lists that the layout shows are the time ranges, one after the other, the member list and the coordinate list
pub views-shown : (row : TemplateRow) (s : List ℕ) → Follows₄ row s → shown_of (after 0 (fields_in row.part (is_timed row) s)) s ≡ first_strung (range_of s) (count_in row.ranges s) ∷ members_of s ∷ coordinates_of s ∷ []
views-shown row s f =
    views-by row.part (is_timed row) s (follows-total row s f)
    ∙ ap (λ (n : ℕ). shown_by (listed row.part (is_timed row)) n) (table-ranges row f.listed s)
    ∙ ap (λ (t : Option Template). shown_by t (count_in row.ranges s)) (sym (template-is row s f))
  where
    shown_by : Option Template → ℕ → List (List ℕ)
    shown_by t n = first_strung (range_shown t s) n ∷ octets_in (members_by t s) s ∷ octets_in (coordinates_by t s) s ∷ []

-- each time range is whole
range-whole-by : (kind : PartKind) (timed : Bool) (s : List ℕ) → length s ≡ total_in kind timed s → (k : ℕ) → k < ranges_at kind timed s → length (range_shown (listed kind timed) s k) ≡ 12
unfolding range_by total ranges_end ranges_at
range-whole-by kind true s l k h = rw (lt-ltb k (ranges_at kind true s) h) (simp (length-take, length-drop) (omega arith))
range-whole-by kind false s l k h = absurd (omega arith)

pub range-whole : (row : TemplateRow) (s : List ℕ) → Follows₄ row s → (k : ℕ) → k < count_in row.ranges s → length (range_of s k) ≡ 12
range-whole row s f k h =
    rw (template-is row s f)
    (range-whole-by row.part (is_timed row) s (follows-total row s f) k (rw (table-ranges row f.listed s) h))

-- ---- where a list is said to stand, the section has its octets

-- it has to be shown of a listed template only, and of a section with its total
within_by : (by : Option Template → Span) (s : List ℕ) → by None ≡ nowhere → ((kind : PartKind) (timed : Bool) → length s ≡ total_in kind timed s → Within (by (listed kind timed)) s) → Within (by (template_read s)) s
within_by by s none some =
    of-both (λ (t : Option Template). Within (by t) s) (outcome₄ s) (template_of (be_at s 8 2)) None (rw none (omega arith))
    (λ vs e.
    let f = accepted-follows s vs e in
    rw (follows-listed f.0 s f.1) (some f.0.part (is_timed f.0) (follows-total f.0 s f.1)))

pub range-within : (s : List ℕ) (k : ℕ) → Within (range_span s k) s
unfolding range_by total ranges_end ranges_at
range-within s k = within_by (λ (t : Option Template). range_by t s k) s refl (λ kind timed l. by-test kind timed l (ltb k (ranges_at kind timed s)) refl)
  where
    room : (kind : PartKind) (timed : Bool) → length s ≡ total_in kind timed s → k < ranges_at kind timed s → part_end kind + 12 + 12 * k + 12 ≤ length s
    room kind true l h = omega arith
    room kind false l h = absurd (omega arith)

    by-test : (kind : PartKind) (timed : Bool) → length s ≡ total_in kind timed s → (t : Bool) → ltb k (ranges_at kind timed s) ≡ t → Within (cond t (span_after (part_end kind + 12 + 12 * k) 12) nowhere) s
    by-test kind timed l true h = room kind timed l (ltb-true _ _ h)
    by-test kind timed l false h = omega arith

pub members-within : (s : List ℕ) → Within (member_span s) s
unfolding members_by total
members-within s = within_by (λ (t : Option Template). members_by t s) s refl (λ kind timed l. after-within (ranges_end kind timed (ranges_at kind timed s)) (members_at kind s) s (omega arith))

pub coordinates-within : (s : List ℕ) → Within (coordinate_span s) s
unfolding coordinates_by total
coordinates-within s = within_by (λ (t : Option Template). coordinates_by t s) s refl (λ kind timed l. after-within (ranges_end kind timed (ranges_at kind timed s) + members_at kind s) (4 * coordinates_at s) s (omega arith))

-- ---- where they stand, by octet numbers

range_at : (kind : PartKind) (timed : Bool) (s : List ℕ) → length s ≡ total_in kind timed s → (p : ℕ) → cond timed (at_octet (part_end kind + 8)) no_count ≡ at_octet p → (k : ℕ) → k < be_at s p 1 → range_shown (listed kind timed) s k ≡ part s (p + 5 + 12 * k) 12
unfolding range_by total ranges_end ranges_at
range_at kind true s l p e k h =
    let counted : part_end kind + 8 ≡ p = cc in
    let first : p + 5 + 12 * k ≡ part_end kind + 12 + 12 * k + 1 = omega arith in
    let less : k < ranges_at kind true s = rw counted h in
    rw (first, part-take s (part_end kind + 12 + 12 * k) 12 (omega arith), lt-ltb k (ranges_at kind true s) less)
range_at kind false s l p e k h = let z : ◌≡◌ {A = ℕ} 0 1 = cc in absurd (omega arith)

-- if n stands at octet p, the ranges start at p + 5, and each has 12 octets
pub range-stands : (row : TemplateRow) (s : List ℕ) → Follows₄ row s → (p : ℕ) → row.ranges ≡ at_octet p → (k : ℕ) → k < be_at s p 1 → range_of s k ≡ part s (p + 5 + 12 * k) 12
range-stands row s f p e k h =
    rw (template-is row s f)
    (range_at row.part (is_timed row) s (follows-total row s f) p (sym (table-count row f.listed) ∙ e) k h)

-- the members follow the ranges, and the coordinates follow them
pub members-stand : (row : TemplateRow) (s : List ℕ) → Follows₄ row s → members_of s ≡ part s (row.octets + 12 * count_in row.ranges s + 1) (count_in row.members s)
members-stand row s f =
    rw (template-is row s f, ← table-end row f.listed s, ← table-members row f.listed s)
    (sym (lists-by row.part (is_timed row) s (follows-total row s f)).0)

pub coordinates-stand : (row : TemplateRow) (s : List ℕ) → Follows₄ row s → coordinates_of s ≡ part s (row.octets + 12 * count_in row.ranges s + count_in row.members s + 1) (4 * be_at s 6 2)
coordinates-stand row s f =
    rw (template-is row s f, ← table-end row f.listed s, ← table-members row f.listed s)
    (sym (lists-by row.part (is_timed row) s (follows-total row s f)).1)

-- ---- nothing is shown

-- from n up
pub no-range : (row : TemplateRow) (s : List ℕ) → Follows₄ row s → (k : ℕ) → count_in row.ranges s ≤ k → range_of s k ≡ []
unfolding range_by
no-range row s f k h =
    rw (template-is row s f, le-ltb k (ranges_at row.part (is_timed row) s) (rw (table-ranges row f.listed s) h))

-- of members where the template has none, or none are counted
pub no-members : (row : TemplateRow) (s : List ℕ) → Follows₄ row s → count_in row.members s ≡ 0 → members_of s ≡ []
unfolding members_by
no-members row s f h = rw (template-is row s f, table-members row f.listed s, h)

-- of a refused section
pub refused-nothing : (s : List ℕ) (number section place : ℕ) → outcome₄ s ≡ refused number section place → ((k : ℕ) → range_of s k ≡ []) × (members_of s ≡ []) × (coordinates_of s ≡ [])
unfolding if_read range_by members_by coordinates_by
refused-nothing s number section place e = ((λ k. rw e), rw e, rw e)
