-- Document 01's table of section 4 and what the outcome goes by say the same: exactly the table's templates are listed, each with its part, its
-- total, and the octets at which counts and times stand.
-- Assumes nothing.
use Prim.Native.Nat.{ℕ, ◌+◌, ◌*◌}
use native.Mathlib.Omega.{arith}
use mathlib.Core.Path.{◌≡◌, refl, ap, sym, ◌∙◌}
use mathlib.Core.Logic.{◌⊎◌, inl, inr, ⊎_elim}
use mathlib.Core.List.Memᴰ
use mathlib.Core.List.{List, [], ◌∷◌, map, Memᴰ}
use mathlib.Core.Bool.{Bool, true, false, cond}
use lib.Dec.{eqb}
use borrow.Author.Tests.{eqb-true}
use Rattle.octets.specs.Octets.{be_at}
use Rattle.product.specs.Templates.{listed, template_of, front_end, part_end, ranges_end, total, ranges_at, members_at, total_in}
use Rattle.product.specs.Table.{no_count, at_octet, TemplateRow, templates₄, count_in, is_timed}
use Rattle.product.specs.declared.templates.PartKind.{PartKind}
use Rattle.product.specs.declared.templates.Template.{Template}
use Rattle.std.specs.Prelude.{Option, None}

-- ---- facts of every row

-- two computations that agree along a table agree on each of its rows
pub each_row : {A : Type 0} (f g : TemplateRow → A) (rows : List TemplateRow) → map f rows ≡ map g rows → (row : TemplateRow) → Memᴰ row rows → f row ≡ g row
each_row f g [] e row m = absurd (Memᴰ.not-nil m)
each_row f g (r ∷ rows) e row m =
    let first : f r ≡ g r = cc in
    let rest : map f rows ≡ map g rows = cc in
    ⊎_elim (λ h. ap f h ∙ first ∙ sym (ap g h)) (each_row f g rows rest row) (Memᴰ.cases_cons m)

-- n time ranges end 12n octets later than none
ends-after : (kind : PartKind) (timed : Bool) (s : List ℕ) → ranges_end kind timed (ranges_at kind timed s) ≡ ranges_end kind timed 0 + 12 * ranges_at kind timed s
unfolding ranges_end ranges_at
ends-after kind true s = omega arith
ends-after kind false s = omega arith

module _ (row : TemplateRow) (m : Memᴰ row templates₄) where
  -- the outcome reads it with the part and the time ranges that the table has
  pub table-listed : template_of row.number ≡ listed row.part (is_timed row)
  unfolding template_of
  table-listed = each_row (λ r. template_of r.number) (λ r. listed r.part (is_timed r)) templates₄ refl row m

  -- where the generating process follows, and so where the forecast time stands
  pub table-process : front_end row.part ≡ 11 + row.moved
  table-process = each_row (λ r. front_end r.part) (λ r. 11 + r.moved) templates₄ refl row m

  -- where n stands, and so the end of the interval
  pub table-count : row.ranges ≡ cond (is_timed row) (at_octet (part_end row.part + 8)) no_count
  table-count = each_row (λ r. r.ranges) (λ r. cond (is_timed r) (at_octet (part_end r.part + 8)) no_count) templates₄ refl row m

  -- n and Nc
  pub table-ranges : (s : List ℕ) → ranges_at row.part (is_timed row) s ≡ count_in row.ranges s
  unfolding ranges_at
  table-ranges s = each_row (λ r. ranges_at r.part (is_timed r) s) (λ r. count_in r.ranges s) templates₄ refl row m

  pub table-members : (s : List ℕ) → members_at row.part s ≡ count_in row.members s
  table-members s = each_row (λ r. members_at r.part s) (λ r. count_in r.members s) templates₄ refl row m

  -- the octets before the lists
  table-octets : ranges_end row.part (is_timed row) 0 ≡ row.octets
  unfolding ranges_end
  table-octets = each_row (λ r. ranges_end r.part (is_timed r) 0) (λ r. r.octets) templates₄ refl row m

  -- where the ranges end, and the whole
  pub table-end : (s : List ℕ) → ranges_end row.part (is_timed row) (ranges_at row.part (is_timed row) s) ≡ row.octets + 12 * count_in row.ranges s
  table-end s = rw (← table-octets, ← table-ranges s) (ends-after row.part (is_timed row) s)

  pub table-total : (s : List ℕ) → total_in row.part (is_timed row) s ≡ row.octets + 12 * count_in row.ranges s + count_in row.members s + 4 * be_at s 6 2
  unfolding total
  table-total s = rw (table-end s, table-members s)

-- ---- which numbers are listed

-- what a table has for a number: the first row that has it
abbrev in_table : ℕ → List TemplateRow → Option Template
in_table number [] = None
in_table number (r ∷ rows) = cond (eqb number r.number) (listed r.part (is_timed r)) (in_table number rows)

-- a row of the table that has it
abbrev RowOf : ℕ → List TemplateRow → Type 0
RowOf number rows = (row : TemplateRow) × Memᴰ row rows × (number ≡ row.number)

found : (number : ℕ) (rows : List TemplateRow) → (in_table number rows ≡ None) ⊎ RowOf number rows
found number [] = inl refl
found number (r ∷ rows) = by-test (eqb number r.number) refl (found number rows)
  where
    by-test : (t : Bool) → eqb number r.number ≡ t → (in_table number rows ≡ None) ⊎ RowOf number rows → (cond t (listed r.part (is_timed r)) (in_table number rows) ≡ None) ⊎ RowOf number (r ∷ rows)
    by-test true e rest = inr (r, Memᴰ.head refl, eqb-true _ _ e)
    by-test false e (inl none) = inl none
    by-test false e (inr one) = inr (one.0, Memᴰ.tail one.1, one.2)

-- a number is not listed, or it is a row's
pub listed-or-not : (number : ℕ) → (template_of number ≡ None) ⊎ RowOf number templates₄
unfolding template_of
listed-or-not number = found number templates₄

-- no other number is listed
pub table-only : (number : ℕ) → ((row : TemplateRow) → Memᴰ row templates₄ → number ≡ row.number → ⊥) → template_of number ≡ None
table-only number no_row = ⊎_elim (λ e. e) (λ one. absurd (no_row one.0 one.1 one.2)) (listed-or-not number)
