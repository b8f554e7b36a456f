-- A field is filed exactly when there is such a slot, the five sections are a field, and the calendar is absent or 0; and then the card is that
-- of the octets.
-- Assumes nothing.
use Prim.Native.Nat.{ℕ, ◌<◌}
use native.Mathlib.Omega.{arith}
use mathlib.Core.Path.{◌≡◌, refl, sym, ap, subst, ◌∙◌}
use mathlib.Core.Logic.{◌↔◌}
use mathlib.Core.Bool.{Bool, true, false, cond}
use mathlib.Core.List.{List}
use lib.Dec.{ltb}
use borrow.Author.Tests.{ltb-false, le-ltb}
use Rattle.std.specs.Prelude.{Option}
use Rattle.layout.specs.Fields.{Value}
use Rattle.layout.specs.Outcomes.{Outcome, refused, read}
use Rattle.identification.specs.Section1.{outcome₁}
use Rattle.identification.specs.Accepted.{Follows₁}
use Rattle.identification.specs.declared.Template.{Template}
use Rattle.identification.proofs.OneTemplate.{one-template}
use Rattle.field.specs.Field.{FieldOutcome, refused_field, read_field, onward, packed_outcome, field_outcome}
use Rattle.field.specs.Accepted.{AcceptedField}
use Rattle.field.proofs.AcceptedExactlyWhen.{accepted-exactly-when}
use Rattle.card.specs.declared.Card.{Card}
use Rattle.shelf.specs.Shelves.{put_of}
use Rattle.shelf.specs.declared.Shelf.{Shelf}
use Rattle.filing.specs.Filing.{Filing, refused_filing, accepted, issue_of, card_of, card_at, foreign_calendar, of_field, filing_of, kept_if, filed_by, filed_of}
use Rattle.filing.specs.Accepted.{Gregorian, FollowsFiling, AcceptedFiling}
use Rattle.filing.specs.declared.Filed.{Filed}
use Rattle.filing.proofs.CardOctets.{card-octets}

-- ---- section 1 of a field that is read was read itself

abbrev FirstIs : List ℕ → FieldOutcome → Type 0
FirstIs s1 (refused_field number section place) = Unit {0}
FirstIs s1 (read_field one three four five) = outcome₁ s1 ≡ read one

onward-first : (s1 : List ℕ) (o : Outcome) (next : List Value → FieldOutcome) → ((vs : List Value) → o ≡ read vs → FirstIs s1 (next vs)) → FirstIs s1 (onward o next)
unfolding onward
onward-first s1 (refused number section place) next f = tt
onward-first s1 (read vs) next f = f vs refl

field-first : (s1 s3 s4 s5 s7 : List ℕ) → FirstIs s1 (field_outcome s1 s3 s4 s5 s7)
unfolding field_outcome packed_outcome
field-first s1 s3 s4 s5 s7 =
    onward-first s1 _ _ (λ one e. onward-first s1 _ _ (λ three _. onward-first s1 _ _ (λ four _. onward-first s1 _ _ (λ five _. onward-first s1 _ _ (λ seven _. e)))))

-- ---- filing

module _ (slot : ℕ) (issue : Option ℕ) (s1 s3 s4 s5 s7 : List ℕ) where
  abbrev CardIs : Card → Type 0
  CardIs card = (template : Template) × Follows₁ template s1 × (card ≡ card_at template s1 (issue_of issue) s4)

  abbrev Follows : Type 0
  Follows = FollowsFiling slot s1 s3 s4 s5 s7

  forth : (card : Card) → filing_of slot issue s1 s3 s4 s5 s7 ≡ accepted card → Follows × CardIs card
  unfolding filing_of of_field
  forth card e = by-slot (ltb 63 slot) refl e
    where
      by-calendar : slot < 64 → (one three four five : List Value) → field_outcome s1 s3 s4 s5 s7 ≡ read_field one three four five → (t : Bool) → foreign_calendar one ≡ t
          → cond t (refused_filing 17 1 0) (accepted (card_of one (issue_of issue) s4)) ≡ accepted card → Follows × CardIs card
      by-calendar l one three four five r true c e = let z : ◌≡◌ {A = ℕ} 0 1 = cc in absurd (omega arith)
      by-calendar l one three four five r false c e =
          let f = (accepted-exactly-when s1 s3 s4 s5 s7).0 (subst AcceptedField (sym r) tt) in
          let k = card-octets s1 one (issue_of issue) s4 (subst (FirstIs s1) r (field-first s1 s3 s4 s5 s7)) in
          let same : card ≡ card_of one (issue_of issue) s4 = cc in
          (record { there = l; field = f; gregorian = (k.0, k.1, k.3.0 c) }, (k.0, k.1, same ∙ k.2))

      by_field : slot < 64 → (o : FieldOutcome) → field_outcome s1 s3 s4 s5 s7 ≡ o → of_field o (issue_of issue) s4 ≡ accepted card → Follows × CardIs card
      by_field l (refused_field number section place) r e = let z : ◌≡◌ {A = ℕ} 0 1 = cc in absurd (omega arith)
      by_field l (read_field one three four five) r e = by-calendar l one three four five r (foreign_calendar one) refl e

      by-slot : (t : Bool) → ltb 63 slot ≡ t → cond t (refused_filing 16 0 0) (of_field (field_outcome s1 s3 s4 s5 s7) (issue_of issue) s4) ≡ accepted card → Follows × CardIs card
      by-slot true h e = let z : ◌≡◌ {A = ℕ} 0 1 = cc in absurd (omega arith)
      by-slot false h e = by_field (omega (arith, ltb-false 63 slot h)) (field_outcome s1 s3 s4 s5 s7) refl e

  back : Follows → (card : Card) × (filing_of slot issue s1 s3 s4 s5 s7 ≡ accepted card)
  unfolding filing_of of_field
  back f = by_field (field_outcome s1 s3 s4 s5 s7) refl ((accepted-exactly-when s1 s3 s4 s5 s7).1 f.field)
    where
      by_field : (o : FieldOutcome) → field_outcome s1 s3 s4 s5 s7 ≡ o → AcceptedField o → (card : Card) × (cond (ltb 63 slot) (refused_filing 16 0 0) (of_field (field_outcome s1 s3 s4 s5 s7) (issue_of issue) s4) ≡ accepted card)
      by_field (refused_field _ _ _) r a = elim a [ ]
      by_field (read_field one three four five) r a =
          let k = card-octets s1 one (issue_of issue) s4 (subst (FirstIs s1) r (field-first s1 s3 s4 s5 s7)) in
          let g = f.gregorian in
          let c : foreign_calendar one ≡ false = k.3.1 (subst (λ (t : Template). Gregorian t s1) (one-template g.0 k.0 s1 g.1 k.1) g.2) in
          (card_of one (issue_of issue) s4, rw (le-ltb 63 slot (omega (arith, f.there)), r, c))

  pub filed-exactly-when : ((card : Card) × (filing_of slot issue s1 s3 s4 s5 s7 ≡ accepted card)) ↔ FollowsFiling slot s1 s3 s4 s5 s7
  filed-exactly-when = ((λ a. (forth a.0 a.1).0), back)

  -- and the card, by the octets of the template that section 1 follows
  pub filed-card : (card : Card) → filing_of slot issue s1 s3 s4 s5 s7 ≡ accepted card → (template : Template) → Follows₁ template s1 → card ≡ card_at template s1 (issue_of issue) s4
  filed-card card e template g =
      let k = (forth card e).1 in
      k.2 ∙ ap (λ (t : Template). card_at t s1 (issue_of issue) s4) (one-template k.0 template s1 k.1 g)

  -- of an answer: kept or passed
  pub answered-exactly-when : (s : Shelf) (r : Filed) → r ≡ filed_of s slot issue s1 s3 s4 s5 s7 → AcceptedFiling r.answer ↔ FollowsFiling slot s1 s3 s4 s5 s7
  unfolding filed_of filed_by
  answered-exactly-when s r e = (
    (λ a. filed-exactly-when.0 (by (filing_of slot issue s1 s3 s4 s5 s7) refl (subst (λ (y : Filed). AcceptedFiling y.answer) e a))),
    (λ f.
        let c = filed-exactly-when.1 f in
        subst (λ (y : Filed). AcceptedFiling y.answer) (sym (e ∙ ap (filed_by s slot) c.1)) (is-kept (put_of s slot c.0).changed)),
  )
    where
      is-kept : (t : Bool) → AcceptedFiling (kept_if t)
      is-kept true = tt
      is-kept false = tt

      by : (f : Filing) → filing_of slot issue s1 s3 s4 s5 s7 ≡ f → AcceptedFiling (filed_by s slot f).answer → (card : Card) × (filing_of slot issue s1 s3 s4 s5 s7 ≡ accepted card)
      by (refused_filing number section place) g a = absurd a
      by (accepted card) g a = (card, g)
