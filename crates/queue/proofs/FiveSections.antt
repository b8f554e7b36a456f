-- Five sections back to back are cut into these and filed so; a body that is not exactly five is refused with 20.
-- Assumes nothing.
use Prim.Native.Nat.{ℕ, ◌+◌, ◌-◌}
use native.Mathlib.Nat.{zero-add}
use native.Mathlib.Omega.{arith}
use mathlib.Core.Path.{◌≡◌, refl, sym, ap, ap₂, subst, ◌∙◌}
use mathlib.Core.Logic.{◌↔◌, ◌⊎◌, inl, inr, ⊎_elim}
use mathlib.Core.Bool.{Bool, true, false, cond}
use mathlib.Core.List.{List, [], ◌++◌, append_assoc, append-nil}
use lib.Dec.{eqb}
use lib.ListN.{length, take, drop, length-append, take-append-drop}
use lib.Seq.{take-append_seam, drop_at, drop-drop, drop-length}
use borrow.Author.Tests.{eq-eqb, eqb-true}
use Rattle.std.specs.Prelude.{Option, Some, None}
use Rattle.cutting.specs.Sections.{stretch, section_step, end_of, end_after, Sized}
use Rattle.cutting.proofs.Sections.{sized-spells, found-sized, EndsAfter, stands-after}
use Rattle.card.specs.declared.Card.{Card}
use Rattle.filing.specs.Filing.{Filing, refused_filing, accepted, filing_of}
use Rattle.filing.specs.Accepted.{FollowsFiling}
use Rattle.filing.proofs.FiledExactlyWhen.{filed-exactly-when}
use Rattle.queue.specs.Bodies.{further, body_of}
use Rattle.queue.specs.Queues.{Sent, body_filing, record_filing}
use Rattle.queue.specs.Spelled.{back_to_back, FiveSections}
use Rattle.queue.specs.declared.Ends.{Ends}

-- ---- a section that stands between others

module _ (s p x rest : List ℕ) (start : ℕ) (e : s ≡ p ++ (x ++ rest)) (n : length p ≡ start) where
  from-there : drop start s ≡ x ++ rest
  from-there = ap (drop start) e ∙ drop_at p (x ++ rest) start n

  ends_there : Sized x → end_after s start ≡ Some (start + length x)
  unfolding end_after
  ends_there z = ap (λ (y : List ℕ). end_of start (section_step y)) from-there ∙ ap (end_of start) (sized-spells x z rest)

  is-there : (end : ℕ) → end ≡ start + length x → stretch s start end ≡ x
  is-there end f =
      let size : end - start ≡ length x = omega (arith, f) in
      ap₂ (λ (k : ℕ) (y : List ℕ). take k y) size from-there ∙ take-append_seam x rest

module _ (s1 s3 s4 s5 s7 : List ℕ) (z1 : Sized s1) (z3 : Sized s3) (z4 : Sized s4) (z5 : Sized s5) (z7 : Sized s7) where
  abbrev s : List ℕ
  s = back_to_back s1 s3 s4 s5 s7

  abbrev ends : Ends
  ends =
      record {
        one = length s1;
        three = length s1 + length s3;
        four = length s1 + length s3 + length s4;
        five = length s1 + length s3 + length s4 + length s5;
      }

  abbrev end : ℕ
  end = ends.five + length s7

  -- what stands before each, and that it stands behind that
  two-one : s ≡ (s1 ++ s3) ++ (s4 ++ (s5 ++ s7))
  two-one = sym (append_assoc s1 s3 _)

  three-one : s ≡ ((s1 ++ s3) ++ s4) ++ (s5 ++ s7)
  three-one = two-one ∙ sym (append_assoc (s1 ++ s3) s4 _)

  four-one : s ≡ (((s1 ++ s3) ++ s4) ++ s5) ++ (s7 ++ [])
  four-one = three-one ∙ sym (append_assoc ((s1 ++ s3) ++ s4) s5 s7) ∙ ap (λ (y : List ℕ). (((s1 ++ s3) ++ s4) ++ s5) ++ y) (sym (append-nil s7))

  size-three : length (s1 ++ s3) ≡ ends.three
  size-three = length-append s1 s3

  size-four : length ((s1 ++ s3) ++ s4) ≡ ends.four
  size-four = length-append (s1 ++ s3) s4 ∙ ap (λ (k : ℕ). k + length s4) size-three

  size-five : length (((s1 ++ s3) ++ s4) ++ s5) ≡ ends.five
  size-five = length-append ((s1 ++ s3) ++ s4) s5 ∙ ap (λ (k : ℕ). k + length s5) size-four

  long : length s ≡ end
  long = simp length-append (omega arith)

  body_is : body_of s ≡ Some ends
  unfolding body_of
  body_is =
      let one : end_after s 0 ≡ Some (length s1) = ends_there s [] s1 _ 0 refl refl z1 ∙ ap Some (zero-add (length s1)) in
      let three = ends_there s s1 s3 _ (length s1) refl refl z3 in
      let four = ends_there s (s1 ++ s3) s4 _ ends.three two-one size-three z4 in
      let five = ends_there s ((s1 ++ s3) ++ s4) s5 _ ends.four three-one size-four z5 in
      let seven = ends_there s (((s1 ++ s3) ++ s4) ++ s5) s7 [] ends.five four-one size-five z7 in
      rw (one, three, four, five, seven, eq-eqb end (length s) (sym long))

  filed-so : (slot : ℕ) (issue : Option ℕ) → body_filing slot issue s (Some ends) ≡ filing_of slot issue s1 s3 s4 s5 s7
  unfolding body_filing
  filed-so slot issue =
      let a = is-there s [] s1 _ 0 refl refl (length s1) (omega arith) in
      let b = is-there s s1 s3 _ (length s1) refl refl ends.three refl in
      let c = is-there s (s1 ++ s3) s4 _ ends.three two-one size-three ends.four refl in
      let d = is-there s ((s1 ++ s3) ++ s4) s5 _ ends.four three-one size-four ends.five refl in
      let f = is-there s (((s1 ++ s3) ++ s4) ++ s5) s7 [] ends.five four-one size-five (length s) long in
      λ i. filing_of slot issue (a i) (b i) (c i) (d i) (f i)

  pub five-filed : (slot : ℕ) (issue : Option ℕ) → record_filing (record { slot = slot; issue = issue; body = s }) ≡ filing_of slot issue s1 s3 s4 s5 s7
  unfolding record_filing
  five-filed slot issue = ap (body_filing slot issue s) body_is ∙ filed-so slot issue

-- ---- and what is cut into five is these back to back

-- where the next section starts, this one ends
goes_further : (x : Option ℕ) (next : ℕ → Option Ends) (e : Ends) → further x next ≡ Some e → (end : ℕ) × (x ≡ Some end) × (next end ≡ Some e)
goes_further None next e f = let z : ◌≡◌ {A = ℕ} 0 1 = cc in absurd (omega arith)
goes_further (Some end) next e f = (end, refl, f)

module _ (s : List ℕ) where
  sized-there : {start end : ℕ} → EndsAfter s start end → Sized (stretch s start end)
  sized-there {start} {end} x = found-sized (drop start s) (stretch s start end) (end - start) x.found

  -- and the rest behind it
  rest-there : {start end : ℕ} → EndsAfter s start end → drop start s ≡ stretch s start end ++ drop end s
  rest-there {start} {end} x =
      let n : start + (end - start) ≡ end = omega (arith, x.later) in
      sym (take-append-drop (end - start) (drop start s))
      ∙ ap (λ (y : List ℕ). stretch s start end ++ y) (drop-drop (end - start) start s ∙ ap (λ (k : ℕ). drop k s) n)

  cut-five : (e : Ends) → body_of s ≡ Some e
      → (x : FiveSections s) × ((slot : ℕ) (issue : Option ℕ) → body_filing slot issue s (Some e) ≡ filing_of slot issue x.s1 x.s3 x.s4 x.s5 x.s7)
  unfolding body_of body_filing
  cut-five e f =
      let one = goes_further _ _ e f in
      let three = goes_further _ _ e one.2 in
      let four = goes_further _ _ e three.2 in
      let five = goes_further _ _ e four.2 in
      let seven = goes_further _ _ e five.2 in
      by_end (stands-after s _ _ one.1) (stands-after s _ _ three.1) (stands-after s _ _ four.1) (stands-after s _ _ five.1) (stands-after s _ _ seven.1) seven.2
    where
      by_end : {a b c d n : ℕ} → EndsAfter s 0 a → EndsAfter s a b → EndsAfter s b c → EndsAfter s c d → EndsAfter s d n
          → cond (eqb n (length s)) (Some (record { one = a; three = b; four = c; five = d })) None ≡ Some e
          → (x : FiveSections s) × ((slot : ℕ) (issue : Option ℕ) → body_filing slot issue s (Some e) ≡ filing_of slot issue x.s1 x.s3 x.s4 x.s5 x.s7)
      by_end {a} {b} {c} {d} {n} one three four five seven = by (eqb n (length s)) refl
        where
          by : (t : Bool) → eqb n (length s) ≡ t → cond t (Some (record { one = a; three = b; four = c; five = d })) None ≡ Some e
              → (x : FiveSections s) × ((slot : ℕ) (issue : Option ℕ) → body_filing slot issue s (Some e) ≡ filing_of slot issue x.s1 x.s3 x.s4 x.s5 x.s7)
          by false t f = let z : ◌≡◌ {A = ℕ} 0 1 = cc in absurd (omega arith)
          by true t f =
              let end : n ≡ length s = eqb-true n (length s) t in
              let last : EndsAfter s d (length s) = subst (EndsAfter s d) end seven in
              let ends : e ≡ record { one = a; three = b; four = c; five = d } = cc in (
                record {
                  s1 = stretch s 0 a;
                  s3 = stretch s a b;
                  s4 = stretch s b c;
                  s5 = stretch s c d;
                  s7 = stretch s d (length s);
                  sized₁ = sized-there one;
                  sized₃ = sized-there three;
                  sized₄ = sized-there four;
                  sized₅ = sized-there five;
                  sized₇ = sized-there last;
                  strung = rest-there one ∙ ap (λ (y : List ℕ). stretch s 0 a ++ y)
                      (rest-there three ∙ ap (λ (y : List ℕ). stretch s a b ++ y)
                      (rest-there four ∙ ap (λ (y : List ℕ). stretch s b c ++ y)
                      (rest-there five ∙ ap (λ (y : List ℕ). stretch s c d ++ y)
                      (rest-there last ∙ ap (λ (y : List ℕ). stretch s d (length s) ++ y) (drop-length s) ∙ append-nil _))));
                },
                λ slot issue. ap (λ (e : Ends). body_filing slot issue s (Some e)) ends,
              )

-- a record is filed with its five sections, or its body is not exactly five and it is refused with 20
pub five-or-20 : (r : Sent) → ((x : FiveSections r.body) × (record_filing r ≡ filing_of r.slot r.issue x.s1 x.s3 x.s4 x.s5 x.s7)) ⊎ ((FiveSections r.body → ⊥) × (record_filing r ≡ refused_filing 20 0 0))
unfolding record_filing body_filing
five-or-20 r = by (body_of r.body) refl
  where
    filed-by : Option Ends → Filing
    filed-by b = body_filing r.slot r.issue r.body b

    by : (b : Option Ends) → body_of r.body ≡ b → ((x : FiveSections r.body) × (record_filing r ≡ filing_of r.slot r.issue x.s1 x.s3 x.s4 x.s5 x.s7)) ⊎ ((FiveSections r.body → ⊥) × (record_filing r ≡ refused_filing 20 0 0))
    by None f = inr (
      (λ x.
          let five = ap body_of x.strung ∙ body_is x.s1 x.s3 x.s4 x.s5 x.s7 x.sized₁ x.sized₃ x.sized₄ x.sized₅ x.sized₇ in
          let z : ◌≡◌ {A = ℕ} 0 1 = cc in omega arith),
      ap filed-by f,
    )
    by (Some e) f = let x = cut-five r.body e f in inl (x.0, ap filed-by f ∙ x.1 r.slot r.issue)

-- so a record is accepted exactly when its body is five sections with which a field is filed to its slot
pub record-accepted : (r : Sent) → ((card : Card) × (record_filing r ≡ accepted card)) ↔ ((x : FiveSections r.body) × FollowsFiling r.slot x.s1 x.s3 x.s4 x.s5 x.s7)
record-accepted r = (
  (λ a.
      ⊎_elim
      (λ x. (x.0, (filed-exactly-when r.slot r.issue x.0.s1 x.0.s3 x.0.s4 x.0.s5 x.0.s7).0 (a.0, sym x.1 ∙ a.1)))
      (λ n. let twenty = sym n.1 ∙ a.1 in let z : ◌≡◌ {A = ℕ} 0 1 = cc in absurd (omega arith))
      (five-or-20 r)),
  (λ y.
      let x = y.0 in
      let card = (filed-exactly-when r.slot r.issue x.s1 x.s3 x.s4 x.s5 x.s7).1 y.1 in (
        card.0,
        ap (λ (b : List ℕ). record_filing (record { slot = r.slot; issue = r.issue; body = b })) x.strung
            ∙ five-filed x.s1 x.s3 x.s4 x.s5 x.s7 x.sized₁ x.sized₃ x.sized₄ x.sized₅ x.sized₇ r.slot r.issue
            ∙ card.1,
      )),
)
