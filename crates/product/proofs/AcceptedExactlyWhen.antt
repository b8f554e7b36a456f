-- A section 4 is accepted exactly when it follows a listed template and keeps the value rules; what is read out are then the
-- values of that template's fields.
-- Assumes nothing.
use Prim.Native.Nat.{ℕ, zero, suc, ◌+◌, ◌-◌, ◌≤◌}
use native.Mathlib.Omega.{arith}
use mathlib.Core.Path.{◌≡◌, refl, ap, sym, subst, ◌∙◌}
use mathlib.Core.Logic.{◌↔◌, ⊎_elim}
use mathlib.Core.List.{List, Memᴰ}
use mathlib.Core.Bool.{Bool, true, false, cond, ◌&&◌}
use lib.ListN.{length}
use lib.Dec.{eqb}
use borrow.Author.Tests.{ne_eqb, eqb-false}
use Rattle.octets.specs.Octets.{be_at}
use Rattle.layout.specs.Fields.{Value, after, placed, bad_place, AllAllowed}
use Rattle.layout.specs.Outcomes.{read}
use Rattle.layout.specs.Time.{time}
use Rattle.layout.proofs.Blocks.{bad-clear, bad-none, clear-bad, none-bad}
use Rattle.layout.proofs.Outcomes.{Headed, Fits, opening-read, opening-last, template-read, template-last}
use Rattle.layout.proofs.Ranges.{between_in, in_between, test-differs, differs-test, test-unmet}
use Rattle.product.specs.Blocks.{process, forecast, scaled, surface, common, interval}
use Rattle.product.specs.Templates.{listed, template_of, front_end, part_end, ranges_end, total, ranges_at, members_at, coordinates_at, lack_of_ranges, fields_in, total_in, values₄}
use Rattle.product.specs.Section4.{as_template, by_template, outcome₄}
use Rattle.product.specs.Table.{CountAt, no_count, at_octet, TemplateRow, templates₄, is_timed}
use Rattle.product.specs.Accepted.{EndKept, IntervalKept, Follows₄}
use Rattle.product.specs.declared.templates.PartKind.{PartKind}
use Rattle.product.specs.declared.templates.Template.{Template}
use Rattle.std.specs.Prelude.{Option, None}
use Rattle.product.proofs.FieldsByBlock.{bad-is, part-enough}
use Rattle.product.proofs.TableAgrees.{table-listed, table-process, table-count, table-total, listed-or-not}

-- ---- the value rules, of the end of an interval after octet `end`

module _ (end : ℕ) (s : List ℕ) where
  back : (k j : ℕ) → k + j ≡ 8 → end + 8 - k ≡ end + j
  back k j e = omega arith

  end-in : AllAllowed (after end interval) s → (be_at s (end + 8) 1 ≡ 0 → ⊥) → EndKept (end + 8) s
  unfolding AllAllowed placed interval time
  end-in h n =
      record {
        year = rw (back 7 1 refl) (test-differs _ _ h.0);
        month = rw (back 5 3 refl) (between_in _ _ _ h.1.0);
        day = rw (back 4 4 refl) (between_in _ _ _ h.1.1.0);
        hour = rw (back 3 5 refl) (between_in _ _ _ h.1.1.1.0).1;
        minute = rw (back 2 6 refl) (between_in _ _ _ h.1.1.1.1.0).1;
        second = rw (back 1 7 refl) (between_in _ _ _ h.1.1.1.1.1.0).1;
        ranges = n;
      }

  in_end : EndKept (end + 8) s → AllAllowed (after end interval) s
  unfolding AllAllowed placed interval time
  in_end k = (
    differs-test _ _ (rw (back 7 1 refl) at k.year),
    (
      in_between 1 12 _ (rw (back 5 3 refl) at k.month),
      (
        in_between 1 31 _ (rw (back 4 4 refl) at k.day),
        (
          in_between 0 23 _ (omega arith, rw (back 3 5 refl) at k.hour),
          (
            in_between 0 59 _ (omega arith, rw (back 2 6 refl) at k.minute),
            (in_between 0 59 _ (omega arith, rw (back 1 7 refl) at k.second), (refl, (refl, tt))),
          ),
        ),
      ),
    ),
  )

module _ (kind : PartKind) (s : List ℕ) where
  -- whether there is an interval or not, with n at its octet
  abbrev count_at : Bool → CountAt
  count_at timed = cond timed (at_octet (part_end kind + 8)) no_count

  interval-in : (timed : Bool) → cond timed (bad_place (after (part_end kind) interval) s) 0 ≡ 0 → timed && eqb (ranges_at kind timed s) 0 ≡ false → IntervalKept (count_at timed) s
  unfolding ranges_at
  interval-in true bad n = end-in (part_end kind) s (bad-none _ _ interval s (omega arith) bad) (eqb-false _ _ n)
  interval-in false bad n = tt

  in-interval : (timed : Bool) → IntervalKept (count_at timed) s → (cond timed (bad_place (after (part_end kind) interval) s) 0 ≡ 0) × (timed && eqb (ranges_at kind timed s) 0 ≡ false)
  unfolding ranges_at
  in-interval true k = (none-bad _ s (in_end (part_end kind) s k), ne_eqb _ _ k.ranges)
  in-interval false k = (refl, refl)

-- the forecast time is all that can be out of range in the fields that every template has
time-in : (end : ℕ) (s : List ℕ) → AllAllowed (after end common) s → be_at s (end + 8) 4 ≡ 0xffffffff → ⊥
unfolding AllAllowed placed common process forecast surface scaled
time-in end s h = test-differs _ _ h.1.1.1.1.1.1.0

in-time : (end : ℕ) (s : List ℕ) → (be_at s (end + 8) 4 ≡ 0xffffffff → ⊥) → AllAllowed (after end common) s
unfolding AllAllowed placed common process forecast surface scaled
in-time end s h = (
  refl,
  (refl, (refl, (refl, (refl, (refl, (differs-test _ _ h, (refl, (refl, (refl, (refl, (refl, (refl, tt)))))))))))),
)

-- the forecast time stands 8 octets after where the generating process follows
forecast-place : (row : TemplateRow) → Memᴰ row templates₄ → 19 + row.moved ≡ front_end row.part + 8
forecast-place row m = omega (arith, table-process row m)

-- ---- accepted, so it follows

module _ (s : List ℕ) (vs : List Value) where
  -- by a row of the table
  by_row : (row : TemplateRow) → Memᴰ row templates₄ → be_at s 8 2 ≡ row.number → Headed 4 s → by_template (template_of (be_at s 8 2)) s ≡ read vs → (row : TemplateRow) × Follows₄ row s × (vs ≡ values₄ row.part (is_timed row) s)
  unfolding as_template by_template
  by_row row m names head e =
      let kind = row.part in
      let timed = is_timed row in
      let by = ap (λ (t : Option Template). by_template t s) (sym (ap template_of names ∙ table-listed row m)) ∙ e in
      let fits = template-read 4 s (read (values₄ kind timed s)) _ _ _ _ vs by in
      let bad = sym (bad-is kind timed (ranges_at kind timed s) (members_at kind s) (coordinates_at s) s) ∙ fits.0.in-range in
      let fine = bad-clear (front_end kind) 1 common s _ (omega arith) bad in (
        row,
        record {
          listed = m;
          small = head.small;
          whole = fits.0.whole ∙ table-total row m s;
          says-length = head.says-length;
          says-number = head.says-number;
          names = names;
          forecast-time = rw (forecast-place row m) (time-in (front_end kind) s fine.0);
          interval = subst (λ (c : CountAt). IntervalKept c s) (sym (table-count row m)) (interval-in kind s timed fine.1 (test-unmet 8 _ fits.0.own-kept));
        },
        cc,
      )

  -- a number that no row has is not accepted
  by-none : (template : Option Template) → template ≡ None → by_template template s ≡ read vs → ⊥
  unfolding by_template
  by-none template n e = let z : ◌≡◌ {A = ℕ} 0 1 = cc in omega arith

  pub accepted-follows : outcome₄ s ≡ read vs → (row : TemplateRow) × Follows₄ row s × (vs ≡ values₄ row.part (is_timed row) s)
  unfolding outcome₄
  accepted-follows e =
      let head = opening-read 4 s _ 9 vs e in
      ⊎_elim (λ n. absurd (by-none (template_of (be_at s 8 2)) n head.2))
      (λ one. by_row one.0 one.1 one.2 head.0 head.2)
      (listed-or-not (be_at s 8 2))

-- ---- it follows, so it is accepted

-- a section with its n is no shorter than the smallest of its template, and that has its nine octets
long-enough : (kind : PartKind) (timed : Bool) (n nc nv : ℕ) → timed && eqb n 0 ≡ false → (total kind timed 1 0 0 ≤ total kind timed n nc nv) × (9 ≤ total kind timed n nc nv)
unfolding total ranges_end
long-enough kind true zero nc nv h = let z : ◌≡◌ {A = ℕ} 0 1 = cc in absurd (omega arith)
long-enough kind true (suc n) nc nv h = (omega arith, omega (arith, part-enough kind))
long-enough kind false n nc nv h = (omega arith, omega (arith, part-enough kind))

module _ (row : TemplateRow) (s : List ℕ) (f : Follows₄ row s) where
  -- the outcome reads it by the row's part, and with time ranges where the row has them
  pub follows-listed : template_of (be_at s 8 2) ≡ listed row.part (is_timed row)
  follows-listed = ap template_of f.names ∙ table-listed row f.listed

  pub follows-total : length s ≡ total_in row.part (is_timed row) s
  follows-total = f.whole ∙ sym (table-total row f.listed s)

  pub follows-accepted : outcome₄ s ≡ read (values₄ row.part (is_timed row) s)
  unfolding outcome₄ as_template by_template
  follows-accepted =
      let kind = row.part in
      let timed = is_timed row in
      let l = follows-total in
      let kept = in-interval kind s timed (subst (λ (c : CountAt). IntervalKept c s) (table-count row f.listed) f.interval) in
      let enough = long-enough kind timed (ranges_at kind timed s) (members_at kind s) (coordinates_at s) kept.1 in
      let fine = in-time (front_end kind) s (rw (forecast-place row f.listed) at f.forecast-time) in
      let bad =
      bad-is kind timed (ranges_at kind timed s) (members_at kind s) (coordinates_at s) s
      ∙ clear-bad (after (front_end kind) common) s _ fine
      ∙ kept.0
      in
      let headed : Headed 4 s = record { long = omega arith; small = f.small; says-length = f.says-length; says-number = f.says-number } in
      let fits : Fits (total kind timed 1 0 0) (bad_place (after 0 (fields_in kind timed s)) s) (lack_of_ranges timed (ranges_at kind timed s)) (total_in kind timed s) s = record { enough = omega arith; in-range = bad; own-kept = rw kept.1; whole = l } in
      opening-last 4 s _ 9 headed (omega arith)
      ∙ ap (λ (t : Option Template). by_template t s) follows-listed
      ∙ template-last 4 s (read (values₄ kind timed s)) _ _ _ _ fits

pub accepted-exactly-when : (s : List ℕ) → ((vs : List Value) × (outcome₄ s ≡ read vs)) ↔ ((row : TemplateRow) × Follows₄ row s)
accepted-exactly-when s = (
  (λ a. let f = accepted-follows s a.0 a.1 in (f.0, f.1)),
  (λ f. (values₄ f.0.part (is_timed f.0) s, follows-accepted f.0 s f.1)),
)
