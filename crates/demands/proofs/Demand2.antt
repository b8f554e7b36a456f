-- Demand 2. The definitions in it, for each section: what it means to follow the template and keep the value rules (`Follows…`) and the octets of
-- each field by their numbers (`octets…`, both `specs/Accepted.antt` of its crate, section 4's table `product/specs/Table.antt`), what each named field
-- of the record means (`Means…`, `specs/Means.antt`), the list of its fields (`fields…`), of which `layout/specs/Fields.antt` computes where each
-- stands and what it says, and what a program's answer says (`told`). A contract of a reader is `told a ≡ outcome… s` (`Entries.antt` of each), so a theorem
-- with that premise is about every answer `a` that the contract allows.
-- Assumes nothing.

-- "What is read out is what those octets mean.", of C: it is told the record's numbers, exactly where the section follows (`FollowsNumbered`,
-- `values/specs/Accepted.antt`) and there is room.
pub use Rattle.skogmund.proofs.RecordTold.{told-exactly-when, record-told, told-record}
-- "follows the WMO FM 92 template layouts", of section 4: exactly the templates of document 01's table (`product/specs/Table.antt`) are listed, each
-- with the table's part, and the total and n that refusals look at are the table's, the forecast time that of the layouts
pub use Rattle.product.proofs.TableAgrees.{table-listed, table-only, table-process, table-count, table-total}
-- The rest are the theorems of this file.
use Prim.Native.Nat.{ℕ, zero, suc, ◌+◌, ◌-◌, ◌*◌, ◌<◌, ◌≤◌}
use native.Mathlib.Omega.{arith}
use mathlib.Core.Path.{◌≡◌, refl, sym, ap, subst, ◌∙◌}
use mathlib.Core.Bool.{true, cond}
use mathlib.Core.Logic.{◌↔◌}
use mathlib.Core.List.{List, [], ◌∷◌}
use lib.Dec.{eqb}
use lib.ListN.{length, get_or, take, drop, replicate}
use borrow.Author.Tests.{ne_eqb}
use Rattle.octets.specs.Octets.{part, be_at}
use Rattle.octets.proofs.Laws.{part-take}
use Rattle.layout.specs.Fields.{Value, after, values_of, Covered}
use Rattle.std.specs.Prelude.{Result, Ok}
use Rattle.layout.specs.Outcomes.{Outcome, refused, read, told}
use Rattle.layout.specs.declared.Refusal.{Refusal}
use Rattle.layout.proofs.Outcomes.{NoneHold, read_none}
use Rattle.layout.specs.Shown.{shown_of}
use Rattle.layout.specs.Spans.{octets_in, Within}
use Rattle.identification.specs.Section1 as one
use Rattle.identification.specs.Accepted.{Follows₁, octets₁}
use Rattle.identification.specs.Means.{Means₁}
use Rattle.identification.specs.declared.Identification.{Identification}
use Rattle.identification.specs.declared.Template.{Template as Template₁}
use Rattle.identification.proofs.AcceptedExactlyWhen.{accepted-exactly-when as exactly₁, accepted-follows as follows₁}
use Rattle.identification.proofs.FieldsCoverOnce.{covered₁}
use Rattle.identification.proofs.MeansByName.{means₁}
use Rattle.grid.specs.Blocks.{values_in as values_in₃, has_list}
use Rattle.grid.specs.Templates.{fields₃, list_width, list_count, list_octets, base_end, values₃}
use Rattle.grid.specs.Points.{sum_of}
use Rattle.grid.specs.Section3 as three
use Rattle.grid.specs.Views.{list₃}
use Rattle.grid.specs.Accepted.{Follows₃, NoList, octets₃}
use Rattle.grid.specs.Means.{Means₃}
use Rattle.grid.specs.declared.blocks.Grid.{Grid}
use Rattle.grid.specs.declared.templates.Template.{Template as Template₃}
use Rattle.grid.proofs.AcceptedExactlyWhen.{accepted-exactly-when as exactly₃, accepted-follows as follows₃, all-fits}
use Rattle.grid.proofs.FieldsCoverOnce.{covered₃}
use Rattle.grid.proofs.MeansByName.{means₃}
use Rattle.grid.proofs.ListShown.{those-very-octets, without-a-list, points-are-its-sum, refused-shows-none}
use Rattle.product.specs.Blocks.{values_in as values_in₄}
use Rattle.product.specs.Templates.{fields_in, values₄}
use Rattle.product.specs.Table.{at_octet, TemplateRow, count_in, is_timed, octets₄}
use Rattle.product.specs.Section4 as four
use Rattle.product.specs.Views.{range_of, members_of, coordinates_of, first_strung}
use Rattle.product.specs.Accepted.{Follows₄}
use Rattle.product.specs.Means.{Means₄}
use Rattle.product.specs.declared.blocks.Product.{Product}
use Rattle.product.proofs.AcceptedExactlyWhen.{accepted-exactly-when as exactly₄, accepted-follows as follows₄}
use Rattle.product.proofs.FieldsCoverOnce.{covered₄}
use Rattle.product.proofs.MeansByName.{means₄}
use Rattle.product.proofs.ViewsAreTheLayouts.{views-shown, range-stands, members-stand, coordinates-stand, range-whole, no-range, no-members, refused-nothing}
use Rattle.lent.proofs.Rows.{each-filled}
use Rattle.unpacking.specs.Packed.{bit_at, bits_from, packed_at, unpacked}
use Rattle.packing.specs.Unpacking.{written_in, Unpacks}
use Rattle.packing.specs.Section5 as five
use Rattle.packing.specs.Section7 as seven
use Rattle.packing.specs.Accepted.{Follows₅, Follows₇alone, Follows₇, octets₅, octets₇alone, octets₇}
use Rattle.packing.specs.declared.Packing.{Packing}
use Rattle.packing.specs.declared.DataSection.{DataSection}
use Rattle.packing.proofs.AcceptedExactlyWhen.{accepted-exactly-when₅, accepted-follows₅, accepted-exactly-when₇alone, accepted-follows₇alone, fields-say₇, accepted-exactly-when₇, accepted-follows₇}
use Rattle.packing.proofs.FieldsCoverOnce.{covered₅, covered₇alone, covered₇, packed-rounded-up}
use Rattle.packing.specs.Means.{Means₅, Means₇}
use Rattle.packing.proofs.MeansByName.{means₅, means₇}
use Rattle.packing.proofs.UnpackedExactlyWhen.{unpacked-exactly-when, written, spare-ignored, width-0-zeros}
use Rattle.field.specs.Field.{FieldOutcome, read_field, onward, packed_outcome, told as told_field, field_outcome}
use Rattle.field.specs.Accepted.{FollowsField, AcceptedField}
use Rattle.field.specs.declared.WholeField.{WholeField}
use Rattle.field.proofs.AcceptedExactlyWhen.{accepted-exactly-when as exactly-field}
use Rattle.skogmund.specs.Parts.{part_span, first_octet}
use Rattle.skogmund.proofs.PartsWithin.{part-within}
use Rattle.demands.specs.Accepted.{Accepted}

-- ---- an outcome is accepted if it is some record's values

accepted-is : (o : Outcome) → Accepted o → (vs : List Value) × (o ≡ read vs)
accepted-is (read vs) a = (vs, refl)
accepted-is (refused _ _ _) a = elim a [ ]

is-accepted : {o : Outcome} (vs : List Value) → o ≡ read vs → Accepted o
is-accepted vs e = subst Accepted (sym e) tt

-- so of an answer that says an outcome
by-outcome : {F : Type 0} {said o : Outcome} → said ≡ o → ((vs : List Value) × (o ≡ read vs)) ↔ F → Accepted said ↔ F
by-outcome {F} {said} {o} e w = ((λ a. w.0 (accepted-is o (subst Accepted e a))), (λ f. let r = w.1 f in subst Accepted (sym e) (is-accepted r.0 r.1)))

-- a section that is handed on to a field that is read was read itself
handed : (o : Outcome) (next : List Value → FieldOutcome) {a b c d : List Value} → onward o next ≡ read_field a b c d → (vs : List Value) × (o ≡ read vs) × (next vs ≡ read_field a b c d)
unfolding onward
handed (refused number section place) next e = let z : ◌≡◌ {A = ℕ} 0 1 = cc in absurd (omega arith)
handed (read vs) next e = (vs, refl, e)

-- ---- "A section is accepted exactly when it has at most 65,536 octets, follows the WMO FM 92 template layouts and keeps the value rules". (Of
-- sections 1 and 5 the totals say that they have at most 65,536.)

pub section-1-accepted : (s : List ℕ) (a : Result Identification Refusal) → told one.values_in a ≡ one.outcome₁ s → Accepted (told one.values_in a) ↔ ((template : Template₁) × Follows₁ template s)
section-1-accepted s a e = by-outcome e (exactly₁ s)

pub section-3-accepted : (s : List ℕ) (a : Result Grid Refusal) → told values_in₃ a ≡ three.outcome₃ s → Accepted (told values_in₃ a) ↔ ((template : Template₃) × Follows₃ template s)
section-3-accepted s a e = by-outcome e (exactly₃ s)

pub section-4-accepted : (s : List ℕ) (a : Result Product Refusal) → told values_in₄ a ≡ four.outcome₄ s → Accepted (told values_in₄ a) ↔ ((row : TemplateRow) × Follows₄ row s)
section-4-accepted s a e = by-outcome e (exactly₄ s)

pub section-5-accepted : (s : List ℕ) (a : Result Packing Refusal) → told five.values_in₅ a ≡ five.outcome₅ s → Accepted (told five.values_in₅ a) ↔ Follows₅ s
section-5-accepted s a e = by-outcome e (accepted-exactly-when₅ s)

pub section-7-accepted : (n bits : ℕ) (s : List ℕ) (a : Result DataSection Refusal) → told seven.values_in₇ a ≡ seven.outcome₇ n bits s → Accepted (told seven.values_in₇ a) ↔ Follows₇ n bits s
section-7-accepted n bits s a e = by-outcome e (accepted-exactly-when₇ n bits s)

-- a section 7 alone, of which no section 5 says N and the bits
pub section-7-alone-accepted : (s : List ℕ) → Accepted (seven.outcome₇alone s) ↔ Follows₇alone s
section-7-alone-accepted s = by-outcome refl (accepted-exactly-when₇alone s)

pub field-accepted : (s1 s3 s4 s5 s7 : List ℕ) (a : Result WholeField Refusal) → told_field a ≡ field_outcome s1 s3 s4 s5 s7 → AcceptedField (told_field a) ↔ FollowsField s1 s3 s4 s5 s7
field-accepted s1 s3 s4 s5 s7 a e =
    let w = exactly-field s1 s3 s4 s5 s7 in
    ((λ x. w.0 (subst AcceptedField e x)), (λ f. subst AcceptedField (sym e) (w.1 f)))

-- ---- "its length is the template's octet count for its own repeat counts": `whole` of each `Follows…`. "and its fields cover every octet
-- once": the fields stand at the octets that document 01 numbers (`octets…`, `specs/Accepted.antt` of each crate, and of
-- section 4 `product/specs/Table.antt`), these are 1 to the length, each once, and the octets of the fields, strung together, are the section

pub section-1-covered : (template : Template₁) (s : List ℕ) → Follows₁ template s → Covered (after 0 (one.fields₁ template)) (octets₁ template) s
section-1-covered template s f = covered₁ template s f.whole

pub section-3-covered : (template : Template₃) (s : List ℕ) → Follows₃ template s → Covered (after 0 (fields₃ template (list_octets s))) (octets₃ template (list_octets s)) s
section-3-covered template s f = covered₃ template (list_octets s) s (all-fits template s f.list).whole

-- by the template's number, with the section's own n, Nc and NV
pub section-4-covered : (row : TemplateRow) (s : List ℕ) → Follows₄ row s → Covered (after 0 (fields_in row.part (is_timed row) s)) (octets₄ row.number (count_in row.ranges s) (count_in row.members s) (be_at s 6 2)) s
section-4-covered = covered₄

pub section-5-covered : (s : List ℕ) → Follows₅ s → Covered (after 0 five.fields₅) octets₅ s
section-5-covered s f = covered₅ s f.whole

pub section-7-covered : (n bits : ℕ) (s : List ℕ) → Follows₇ n bits s → Covered (after 0 (seven.fields₇ n bits)) (octets₇ n bits) s
section-7-covered n bits s f = covered₇ n bits s f.whole

-- "N x bits / 8 rounded up": the packed octets have all N x bits bits, and fewer than 8 bits beside them
pub section-7-rounded-up : (n bits : ℕ) → (n * bits ≤ 8 * seven.packed_octets n bits) × (8 * seven.packed_octets n bits < n * bits + 8)
section-7-rounded-up = packed-rounded-up

-- alone, five octets and the rest
pub section-7-alone-covered : (s : List ℕ) → Follows₇alone s → Covered (after 0 (seven.fields₇alone (length s - 5))) (octets₇alone (length s - 5)) s
section-7-alone-covered s f = covered₇alone (length s - 5) s (omega (arith, f.long))

-- ---- "What is read out is what those octets mean": a record that is read has the values of the fields, and section 1's the real year beside them

pub section-1-means : (s : List ℕ) (x : Identification) → told one.values_in (Ok x) ≡ one.outcome₁ s → (template : Template₁) × Follows₁ template s × (one.values_in x ≡ one.values₁ template s)
section-1-means s x e = follows₁ s (one.values_in x) (sym e)

pub section-3-means : (s : List ℕ) (x : Grid) → told values_in₃ (Ok x) ≡ three.outcome₃ s → (template : Template₃) × Follows₃ template s × (values_in₃ x ≡ values₃ template s)
section-3-means s x e = follows₃ s (values_in₃ x) (sym e)

pub section-4-means : (s : List ℕ) (x : Product) → told values_in₄ (Ok x) ≡ four.outcome₄ s → (row : TemplateRow) × Follows₄ row s × (values_in₄ x ≡ values₄ row.part (is_timed row) s)
section-4-means s x e = follows₄ s (values_in₄ x) (sym e)

pub section-5-means : (s : List ℕ) (x : Packing) → told five.values_in₅ (Ok x) ≡ five.outcome₅ s → Follows₅ s × (five.values_in₅ x ≡ values_of (after 0 five.fields₅) s)
section-5-means s x e = accepted-follows₅ s (five.values_in₅ x) (sym e)

pub section-7-means : (n bits : ℕ) (s : List ℕ) (x : DataSection) → told seven.values_in₇ (Ok x) ≡ seven.outcome₇ n bits s → Follows₇ n bits s × (seven.values_in₇ x ≡ values_of (after 0 (seven.fields₇ n bits)) s)
section-7-means n bits s x e = accepted-follows₇ n bits s (seven.values_in₇ x) (sym e)

-- alone it says its length and its number
pub section-7-alone-means : (s : List ℕ) (vs : List Value) → seven.outcome₇alone s ≡ read vs → Follows₇alone s × (vs ≡ seven.values₇ s) × (vs ≡ values_of (after 0 (seven.fields₇alone (length s - 5))) s)
section-7-alone-means s vs e =
    let a = accepted-follows₇alone s vs e in
    (a.0, a.1, a.1 ∙ sym (fields-say₇ (length s - 5) s))

-- ---- by name and octet: each field of the record is the meaning of its octets (`Means…`, `specs/Means.antt` of each crate)

pub section-1-by-name : (s : List ℕ) (x : Identification) → told one.values_in (Ok x) ≡ one.outcome₁ s → (template : Template₁) × Follows₁ template s × Means₁ template x s
section-1-by-name s x e = let a = section-1-means s x e in (a.0, a.1, means₁ a.0 s x a.2)

pub section-3-by-name : (s : List ℕ) (x : Grid) → told values_in₃ (Ok x) ≡ three.outcome₃ s → (template : Template₃) × Follows₃ template s × Means₃ template x s
section-3-by-name s x e = let a = section-3-means s x e in (a.0, a.1, means₃ a.0 s x a.2)

pub section-4-by-name : (s : List ℕ) (x : Product) → told values_in₄ (Ok x) ≡ four.outcome₄ s → (row : TemplateRow) × Follows₄ row s × Means₄ row x s
section-4-by-name s x e =
    let f = section-4-means s x e in
    (f.0, f.1, means₄ f.0 f.1.listed s x f.2)

pub section-5-by-name : (s : List ℕ) (x : Packing) → told five.values_in₅ (Ok x) ≡ five.outcome₅ s → Means₅ x s
section-5-by-name s x e = means₅ s x (section-5-means s x e).1

pub section-7-by-name : (n bits : ℕ) (s : List ℕ) (x : DataSection) → told seven.values_in₇ (Ok x) ≡ seven.outcome₇ n bits s → Means₇ x s
section-7-by-name n bits s x e = means₇ n bits s x (section-7-means n bits s x e).1

-- a field that is read is its sections, each read as it is alone, and section 7 by section 5's N and bits
pub field-means : (s1 s3 s4 s5 s7 : List ℕ) (x : WholeField) → told_field (Ok x) ≡ field_outcome s1 s3 s4 s5 s7
    → (one.outcome₁ s1 ≡ read (one.values_in x.identification)) × (three.outcome₃ s3 ≡ read (values_in₃ x.grid)) × (four.outcome₄ s4 ≡ read (values_in₄ x.product))
    × (five.outcome₅ s5 ≡ read (five.values_in₅ x.packing)) × ((vs : List Value) × (seven.outcome₇ (five.values_at s5) (five.bits_at s5) s7 ≡ read vs))
unfolding told_field field_outcome packed_outcome NoneHold
field-means s1 s3 s4 s5 s7 x e =
    let a = handed (one.outcome₁ s1) _ (sym e) in
    let b = handed (three.outcome₃ s3) _ a.2 in
    let c = handed (four.outcome₄ s4) _ b.2 in
    let d = handed (five.outcome₅ s5) _ c.2 in
    let f = handed _ _ d.2 in
    let same = f.2 in
    let g = read_none 5 _ (seven.outcome₇ (five.values_at s5) (five.bits_at s5) s7) _ f.1 in
    (a.1 ∙ ap read cc, b.1 ∙ ap read cc, c.1 ∙ ap read cc, d.1 ∙ ap read cc, (f.0, g.1))

-- so each of its records is, by name and octet, what its section says
pub field-by-name : (s1 s3 s4 s5 s7 : List ℕ) (x : WholeField) → told_field (Ok x) ≡ field_outcome s1 s3 s4 s5 s7
    → ((template : Template₁) × Follows₁ template s1 × Means₁ template x.identification s1) × ((template : Template₃) × Follows₃ template s3 × Means₃ template x.grid s3)
    × ((row : TemplateRow) × Follows₄ row s4 × Means₄ row x.product s4) × Means₅ x.packing s5
field-by-name s1 s3 s4 s5 s7 x e =
    let f = field-means s1 s3 s4 s5 s7 x e in (
      section-1-by-name s1 x.identification (sym f.0),
      section-3-by-name s3 x.grid (sym f.1),
      section-4-by-name s4 x.product (sym f.2),
      section-5-by-name s5 x.packing (sym f.3),
    )

-- ---- a caller is shown those very octets of the section, and nothing of a refused one

pub list-of-section-3 : (template : Template₃) (s : List ℕ) → Follows₃ template s → list₃ s ≡ part s (1 + base_end template) (list_octets s)
list-of-section-3 = those-very-octets

pub list-without-width : (template : Template₃) (s : List ℕ) → Follows₃ template s → NoList template s → list₃ s ≡ []
list-without-width = without-a-list

-- its numbers sum to the points
pub list-sum : (template : Template₃) (s : List ℕ) → Follows₃ template s → has_list (list_width s) ≡ true → be_at s 7 4 ≡ sum_of 0 (list_width s) (list₃ s) (list_count s)
list-sum = points-are-its-sum

pub no-list-of-section-3 : (s : List ℕ) (number section place : ℕ) → three.outcome₃ s ≡ refused number section place → list₃ s ≡ []
no-list-of-section-3 = refused-shows-none

-- the time ranges, strung together, the members and the coordinates are the octets that the layout shows, in their order
pub views-of-section-4 : (row : TemplateRow) (s : List ℕ) → Follows₄ row s → shown_of (after 0 (fields_in row.part (is_timed row) s)) s ≡ first_strung (range_of s) (count_in row.ranges s) ∷ members_of s ∷ coordinates_of s ∷ []
views-of-section-4 = views-shown

-- by octet numbers: if n stands at octet p, the ranges start at p + 5; the members follow them, and then the coordinates
pub range-by-octet : (row : TemplateRow) (s : List ℕ) → Follows₄ row s → (p : ℕ) → row.ranges ≡ at_octet p → (k : ℕ) → k < be_at s p 1 → range_of s k ≡ part s (p + 5 + 12 * k) 12
range-by-octet = range-stands

pub members-by-octet : (row : TemplateRow) (s : List ℕ) → Follows₄ row s → members_of s ≡ part s (row.octets + 12 * count_in row.ranges s + 1) (count_in row.members s)
members-by-octet = members-stand

pub coordinates-by-octet : (row : TemplateRow) (s : List ℕ) → Follows₄ row s → coordinates_of s ≡ part s (row.octets + 12 * count_in row.ranges s + count_in row.members s + 1) (4 * be_at s 6 2)
coordinates-by-octet = coordinates-stand

pub range-has-12 : (row : TemplateRow) (s : List ℕ) → Follows₄ row s → (k : ℕ) → k < count_in row.ranges s → length (range_of s k) ≡ 12
range-has-12 = range-whole

pub no-range-from-n-up : (row : TemplateRow) (s : List ℕ) → Follows₄ row s → (k : ℕ) → count_in row.ranges s ≤ k → range_of s k ≡ []
no-range-from-n-up = no-range

-- a template without members, and one that counts none
pub no-members-of-section-4 : (row : TemplateRow) (s : List ℕ) → Follows₄ row s → count_in row.members s ≡ 0 → members_of s ≡ []
no-members-of-section-4 = no-members

pub no-views-of-section-4 : (s : List ℕ) (number section place : ℕ) → four.outcome₄ s ≡ refused number section place → ((k : ℕ) → range_of s k ≡ []) × (members_of s ≡ []) × (coordinates_of s ≡ [])
no-views-of-section-4 = refused-nothing

-- where C is told that a part stands, the section has all of its octets
pub parts_within : (part : ℕ) (s : List ℕ) (k : ℕ) → Within (part_span part s k) s
parts_within = part-within

-- and they are those that the view shows: from that octet on, so many
pub octets-told : (before n : ℕ) (s : List ℕ) → before + n ≤ length s → part s (cond (eqb n 0) 0 (before + 1)) n ≡ take n (drop before s)
unfolding part
octets-told before zero s h = refl
octets-told before (suc n) s h = rw (ne_eqb (suc n) 0 (λ e. omega arith)) (part-take s before (suc n) h)

pub parts-told : (part-number : ℕ) (s : List ℕ) (k : ℕ) → part s (first_octet (part_span part-number s k)) (part_span part-number s k).length ≡ octets_in (part_span part-number s k) s
parts-told part-number s k =
    let x = part_span part-number s k in
    octets-told x.before x.length s (part-within part-number s k)

-- ---- unpacking: number k is what the bits from k x bits on stand for, the most significant first

pub unpacked-means : (bits n k : ℕ) (xs : List ℕ) → k < n → get_or (unpacked bits n xs) k 0 ≡ bits_from xs (k * bits) bits
unfolding unpacked packed_at
unpacked-means bits n k xs l = each-filled 0 (packed_at bits xs) n k l

-- a row is written exactly when sections 5 and 7 follow and it has N places
pub unpacking-accepted : (s5 s7 row later : List ℕ) (a : Result ℕ Refusal) → Unpacks s5 s7 row a later
    → Accepted (told written_in a) ↔ (Follows₅ s5 × Follows₇ (be_at s5 6 4) (be_at s5 20 1) s7 × (length row ≡ be_at s5 6 4))
unpacking-accepted s5 s7 row later a u = by-outcome u.answers (unpacked-exactly-when s5 s7 row)

-- then it holds the N numbers, and N is answered
pub unpacking-means : (s5 s7 row later : List ℕ) (n : ℕ) → Unpacks s5 s7 row (Ok n) later
    → (n ≡ be_at s5 6 4) × Follows₅ s5 × Follows₇ (be_at s5 6 4) (be_at s5 20 1) s7 × (length row ≡ be_at s5 6 4) × (later ≡ unpacked (be_at s5 20 1) (be_at s5 6 4) (drop 5 s7))
unpacking-means s5 s7 row later n u = written s5 s7 row n later u

-- spare bits are not looked at: two sections 7 whose first N x bits bits are the same, from octet 6 on, leave the same row
pub spare-bits : (s5 s7 s7' row row' later later' : List ℕ) (n n' : ℕ) → Unpacks s5 s7 row (Ok n) later → Unpacks s5 s7' row' (Ok n') later'
    → ((k : ℕ) → k < be_at s5 6 4 * be_at s5 20 1 → bit_at (drop 5 s7) k ≡ bit_at (drop 5 s7') k) → later ≡ later'
spare-bits = spare-ignored

-- width 0 writes zeros
pub width-0 : (s5 s7 row later : List ℕ) (n : ℕ) → Unpacks s5 s7 row (Ok n) later → be_at s5 20 1 ≡ 0 → later ≡ replicate (be_at s5 6 4) 0
width-0 = width-0-zeros
