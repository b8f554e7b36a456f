-- The words of the templates, and the rows that they make of accepted sections.
-- Assumes nothing.
use Prim.Native.Nat.{ℕ, zero, suc}
use mathlib.Core.Path.{◌≡◌, refl, sym, ap, ◌∙◌}
use mathlib.Core.Bool.{Bool, true, false, cond}
use mathlib.Core.List.{List, [], ◌∷◌, ◌++◌, append_assoc}
use lib.Dec.{eqb}
use lib.IntN.{ℤ}
use lib.ListN.{length}
use Rattle.octets.specs.Octets.{be_at}
use Rattle.layout.specs.Fields.{Value, is}
use Rattle.layout.specs.Time.{time}
use Rattle.text.specs.Text.{ascii}
use Rattle.identification.specs.Section1.{fields₁, origin, status_and_type, values₁, real_year_at, outcome₁}
use Rattle.identification.specs.Accepted.{Follows₁}
use Rattle.identification.specs.declared.Template.{Template as Template₁}
use Rattle.identification.specs.declared.Template.TheVariants.{None as no_template, Calendar, Offset, CalendarAndOffset}
use Rattle.identification.proofs.AcceptedExactlyWhen.{accepted-follows as follows₁}
use Rattle.grid.specs.Blocks.{grid_head, earth_size, earth, counts, corners, common as common₃, pole, poles}
use Rattle.grid.specs.Templates.{fields₃, list_octets, values₃, template_numbered}
use Rattle.grid.specs.Section3.{outcome₃}
use Rattle.grid.specs.declared.templates.Template.{Template as Template₃}
use Rattle.grid.specs.declared.templates.Template.TheVariants.{LatLon, Rotated, Stretched, StretchedAndRotated}
use Rattle.grid.proofs.AcceptedExactlyWhen.{accepted-follows as follows₃, named}
use Rattle.product.specs.Blocks.{head, parameter, process, forecast, scaled, surface, common, ensemble, cluster, probability, aerosol, interval}
use Rattle.product.specs.Templates.{listed, fields₄, front, ahead, behind, time_ranges, lists, template_of}
use Rattle.product.specs.Section4.{outcome₄}
use Rattle.product.specs.Table.{is_timed}
use Rattle.product.specs.declared.templates.PartKind.{PartKind}
use Rattle.product.specs.declared.templates.PartKind.TheVariants.{None as no_part, Ensemble, Cluster, Probability, Aerosol}
use Rattle.product.specs.declared.templates.Template.{Template as Template₄}
use Rattle.std.specs.Prelude.{Option, Some, None}
use Rattle.product.proofs.AcceptedExactlyWhen.{accepted-follows as follows₄, follows-listed}
use Rattle.packing.specs.Section5.{fields₅, outcome₅}
use Rattle.packing.specs.Section7.{outcome₇alone}
use Rattle.packing.proofs.AcceptedExactlyWhen.{accepted-follows₅, accepted-follows₇alone}
use Rattle.lent.specs.Lent.{with_count}
use Rattle.values.specs.Records.{in_row, numbers_in, PutsRecord}
use Rattle.values.specs.Letters.{kind_of, numbers_by}
use Rattle.values.proofs.Words.{spelt, spelt-numbers}

-- the numbers of an accepted section stand in the row
stands : (row : List ℤ) (vs : List Value) {row' ns : List ℤ} → row' ≡ with_count ns row → numbers_in vs ≡ ns → row' ≡ with_count (numbers_in vs) row
stands row vs e f = e ∙ sym (ap (λ (ns : List ℤ). with_count ns row) f)

-- ---- section 1

abbrev pub word₁ : Template₁ → List ℕ
word₁ no_template = ascii "412211121111111"
word₁ Calendar = ascii "41221112111111121"
word₁ Offset = ascii "4122111b11111112b"
word₁ CalendarAndOffset = ascii "4122111b111111121b"

-- the template by the octets
abbrev pub numbered₁ : ℕ → Template₁
numbered₁ zero = Calendar
numbered₁ (suc zero) = Offset
numbered₁ (suc (suc n)) = CalendarAndOffset

abbrev pub template₁ : List ℕ → Template₁
template₁ s = cond (eqb (length s) 21) no_template (numbered₁ (be_at s 22 2))

template-is : (t : Template₁) (s : List ℕ) → Follows₁ t s → t ≡ template₁ s
template-is no_template s f = rw f.whole
template-is Calendar s f = rw (f.whole, f.names)
template-is Offset s f = rw (f.whole, f.names)
template-is CalendarAndOffset s f = rw (f.whole, f.names)

then-last : (vs : List Value) (z : ℤ) → numbers_in (vs ++ (is z ∷ [])) ≡ numbers_in vs ++ (z ∷ [])
unfolding numbers_in
then-last [] z = refl
then-last (v ∷ vs) z = ap (λ (ns : List ℤ). in_row v ++ ns) (then-last vs z) ∙ sym (append_assoc (in_row v) (numbers_in vs) (z ∷ []))

spelt₁ : (t : Template₁) → spelt (fields₁ t) (word₁ t) ≡ true
unfolding spelt kind_of fields₁ origin status_and_type time
spelt₁ no_template = refl
spelt₁ Calendar = refl
spelt₁ Offset = refl
spelt₁ CalendarAndOffset = refl

numbers₁ : (t : Template₁) (s : List ℕ) → numbers_in (values₁ t s) ≡ numbers_by (word₁ t) 1 s ++ (real_year_at t s ∷ [])
unfolding values₁
numbers₁ t s = then-last _ (real_year_at t s) ∙ ap (λ (ns : List ℤ). ns ++ (real_year_at t s ∷ [])) (spelt-numbers (fields₁ t) (word₁ t) 0 1 s (spelt₁ t))

pub row₁ : (s : List ℕ) (t : Template₁) (row row' : List ℤ) → template₁ s ≡ t → row' ≡ with_count (numbers_by (word₁ t) 1 s ++ (real_year_at t s ∷ [])) row → PutsRecord (outcome₁ s) row row'
row₁ s t row row' by e vs accepted =
    let f = follows₁ s vs accepted in
    let same = template-is f.0 s f.1 ∙ by in
    stands row vs e (ap numbers_in (f.2 ∙ ap (λ (t : Template₁). values₁ t s) same) ∙ numbers₁ t s)

-- ---- section 3

abbrev pub word₃ : Template₃ → List ℕ
word₃ LatLon = ascii "41141121QTQTQTTT4Tdd1ddTT1"
word₃ Rotated = ascii "41141121QTQTQTTT4Tdd1ddTT1dd4"
word₃ Stretched = ascii "41141121QTQTQTTT4Tdd1ddTT1dd4"
word₃ StretchedAndRotated = ascii "41141121QTQTQTTT4Tdd1ddTT1dd4dd4"

spelt₃ : (t : Template₃) (n : ℕ) → spelt (fields₃ t n) (word₃ t) ≡ true
unfolding spelt kind_of fields₃ grid_head earth_size earth counts corners common₃ pole poles
spelt₃ LatLon n = refl
spelt₃ Rotated n = refl
spelt₃ Stretched n = refl
spelt₃ StretchedAndRotated n = refl

pub row₃ : (s : List ℕ) (t : Template₃) (row row' : List ℤ) → template_numbered (be_at s 13 2) ≡ t → row' ≡ with_count (numbers_by (word₃ t) 1 s) row → PutsRecord (outcome₃ s) row row'
unfolding values₃
row₃ s t row row' by e vs accepted =
    let f = follows₃ s vs accepted in
    let same = sym (named f.0) ∙ ap template_numbered (sym f.1.names) ∙ by in
    stands row vs e (ap numbers_in (f.2 ∙ ap (λ (t : Template₃). values₃ t s) same) ∙ spelt-numbers (fields₃ t (list_octets s)) (word₃ t) 0 1 s (spelt₃ t (list_octets s)))

-- ---- section 4

-- a template of a point in time, and the same with the end of an interval
abbrev timed_word : Bool → List ℕ → List ℕ
timed_word true word = word ++ ascii "21111114"
timed_word false word = word

-- no other number can have been accepted than the last template's
abbrev pub part_word : PartKind → List ℕ
part_word no_part = ascii "412211111R11d1AD1AD"
part_word Ensemble = ascii "412211111R11d1AD1AD111"
part_word Cluster = ascii "412211111R11d1AD1AD111111144411414"
part_word Probability = ascii "412211111R11d1AD1AD111ADAD"
part_word Aerosol = ascii "41221121ADAD111R11d1AD1AD"

abbrev pub word₄ : Option Template₄ → List ℕ
word₄ (Some t) = timed_word t.timed (part_word t.kind)
word₄ None = ascii "41221121ADAD111R11d1AD1AD21111114"

spelt₄ : (kind : PartKind) (timed : Bool) (n nc nv : ℕ) → spelt (fields₄ kind timed n nc nv) (word₄ (listed kind timed)) ≡ true
unfolding spelt kind_of fields₄ front ahead behind time_ranges lists head parameter process forecast scaled surface common ensemble cluster probability aerosol interval time
spelt₄ no_part true n nc nv = refl
spelt₄ no_part false n nc nv = refl
spelt₄ Ensemble true n nc nv = refl
spelt₄ Ensemble false n nc nv = refl
spelt₄ Cluster true n nc nv = refl
spelt₄ Cluster false n nc nv = refl
spelt₄ Probability true n nc nv = refl
spelt₄ Probability false n nc nv = refl
spelt₄ Aerosol true n nc nv = refl
spelt₄ Aerosol false n nc nv = refl

pub row₄ : (s : List ℕ) (t : Option Template₄) (row row' : List ℤ) → template_of (be_at s 8 2) ≡ t → row' ≡ with_count (numbers_by (word₄ t) 1 s) row → PutsRecord (outcome₄ s) row row'
row₄ s t row row' by e vs accepted =
    let f = follows₄ s vs accepted in
    let kind = f.0.part in
    let timed = is_timed f.0 in
    let same = sym (follows-listed f.0 s f.1) ∙ by in
    stands row vs e
    (ap numbers_in f.2
    ∙ spelt-numbers _ (word₄ (listed kind timed)) 0 1 s (spelt₄ kind timed _ _ _)
    ∙ ap (λ (t : Option Template₄). numbers_by (word₄ t) 1 s) same)

-- ---- sections 5 and 7

pub row₅ : (s : List ℕ) (row row' : List ℤ) → row' ≡ with_count (numbers_by (ascii "41424bb11") 1 s) row → PutsRecord (outcome₅ s) row row'
unfolding spelt kind_of fields₅
row₅ s row row' e vs accepted = stands row vs e (ap numbers_in (accepted-follows₅ s vs accepted).1 ∙ spelt-numbers fields₅ (ascii "41424bb11") 0 1 s refl)

pub row₇ : (s : List ℕ) (row row' : List ℤ) → row' ≡ with_count (numbers_by (ascii "41") 1 s) row → PutsRecord (outcome₇alone s) row row'
unfolding numbers_in numbers_by kind_of
row₇ s row row' e vs accepted = stands row vs e (ap numbers_in (accepted-follows₇alone s vs accepted).1)

-- ---- every other number is the last template's

pub last₃ : (n : ℕ) → (n ≡ 0 → ⊥) → (n ≡ 1 → ⊥) → (n ≡ 2 → ⊥) → template_numbered n ≡ StretchedAndRotated
unfolding template_numbered
last₃ zero a b c = absurd (a refl)
last₃ (suc zero) a b c = absurd (b refl)
last₃ (suc (suc zero)) a b c = absurd (c refl)
last₃ (suc (suc (suc n))) a b c = refl

pub last₁ : (n : ℕ) → (n ≡ 0 → ⊥) → (n ≡ 1 → ⊥) → numbered₁ n ≡ CalendarAndOffset
last₁ zero a b = absurd (a refl)
last₁ (suc zero) a b = absurd (b refl)
last₁ (suc (suc n)) a b = refl
