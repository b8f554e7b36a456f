-- What a caller is shown: of an accepted message the k-th field's sections, and of anything else no octets.
-- Assumes nothing.
use Prim.Native.Nat.{ℕ, zero, suc, ◌-◌, ◌^◌, ◌≤◌, ◌<◌}
use native.Mathlib.Omega.{arith}
use mathlib.Core.Path.{◌≡◌, refl, ap, sym, subst, ◌∙◌}
use mathlib.Core.Bool.{Bool, true, false, cond, true≢false}
use mathlib.Core.List.{List, [], ◌∷◌, ◌++◌}
use lib.Dec.{ltb, eqb}
use lib.ListN.{length, length-map, get_or, replicate, get_or-map, get_or-append, get_or-eq_default}
use borrow.Author.Tests.{ltb-true, ltb-false, le-ltb}
use Rattle.layout.specs.Spans.{nowhere, octets_in}
use Rattle.layout.specs.Refusals.{one_of}
use Rattle.layout.proofs.Refusals.{by-test}
use Rattle.message.specs.declared.Sections.{Sections}
use Rattle.message.specs.Walk.{Cut}
use Rattle.message.specs.Walk.{no_sections}
use Rattle.message.specs.Grammar.{Five, no_five, Follows, AllFollow, fields_in, FollowsMessage}
use Rattle.message.specs.Messages.{shown_in, span_of, field_of, section_in, numbered, read_message}
use Rattle.message.specs.Places.{places_in, padded, fields_found, FieldWithin, LowField}
use Rattle.message.proofs.Shown.{frame-shown, nowhere-within, frame-within}
use Rattle.message.proofs.AcceptedExactlyWhen.{answer, accepted-exactly-when}

-- ---- a section by its number

by_tests : (m : List ℕ) (f : Sections) (a b c d e : Bool)
    → octets_in (cond a f.one (cond b f.three (cond c f.four (cond d f.five (cond e f.seven nowhere))))) m
    ≡ cond a (octets_in f.one m) (cond b (octets_in f.three m) (cond c (octets_in f.four m) (cond d (octets_in f.five m) (cond e (octets_in f.seven m) []))))
by_tests m f true b c d e = refl
by_tests m f false true c d e = refl
by_tests m f false false true d e = refl
by_tests m f false false false true e = refl
by_tests m f false false false false true = refl
by_tests m f false false false false false = refl

-- the section of a field that has this number; of others, no octets
abbrev section_numbered : Five → ℕ → List ℕ
section_numbered x n = numbered x.one x.three x.four x.five x.seven [] n

by_number : (m : List ℕ) (f : Sections) (n : ℕ) → octets_in (span_of f n) m ≡ section_numbered (shown_in m f) n
unfolding numbered
by_number m f n = by_tests m f (eqb n 1) (eqb n 3) (eqb n 4) (eqb n 5) (eqb n 7)

-- ---- the k-th field

found_at : (fs : List Sections) (k : ℕ) → field_of (fields_found fs) k ≡ get_or fs k no_sections
unfolding padded
found_at fs k = by-room (ltb k (length fs)) refl
  where
    by-room : (t : Bool) → ltb k (length fs) ≡ t → cond t (get_or (fs ++ replicate (16 - length fs) no_sections) k no_sections) no_sections ≡ get_or fs k no_sections
    by-room true e = get_or-append fs (replicate (16 - length fs) no_sections) no_sections k (ltb-true k (length fs) e)
    by-room false e = sym (get_or-eq_default fs no_sections {n = k} (ltb-false k (length fs) e))

-- The k-th field of an accepted message stands where its groups have it; past the last, nowhere.
pub stands_at : (m : List ℕ) (x : FollowsMessage m) (k : ℕ) → field_of (read_message m) k ≡ get_or (places_in x.parts) k no_sections
stands_at m x k = ap (λ (c : Cut). field_of c k) (answer m x) ∙ found_at (places_in x.parts) k

-- The k-th field that an accepted message's answer shows is the k-th that its groups leave in force; past the last, no octets.
pub field-shown : (m : List ℕ) (x : FollowsMessage m) (k : ℕ) → shown_in m (field_of (read_message m) k) ≡ get_or (fields_in x.parts) k no_five
field-shown m x k =
    let fs = places_in x.parts in
    ap (shown_in m) (stands_at m x k)
    ∙ sym (get_or-map (shown_in m) fs k no_sections)
    ∙ ap (λ (l : List Five). get_or l k no_five) (frame-shown m x.parts x.frame)

section-shown : (m : List ℕ) (x : FollowsMessage m) (k n : ℕ) → section_in m (read_message m) k n ≡ section_numbered (get_or (fields_in x.parts) k no_five) n
unfolding section_in
section-shown m x k n = by_number m (field_of (read_message m) k) n ∙ ap (λ (f : Five). section_numbered f n) (field-shown m x k)

-- by number, one by one
pub sections-by-number : (m : List ℕ) (x : FollowsMessage m) (k : ℕ) → let f = get_or (fields_in x.parts) k no_five in
    (section_in m (read_message m) k 1 ≡ f.one) × (section_in m (read_message m) k 3 ≡ f.three) × (section_in m (read_message m) k 4 ≡ f.four) × (section_in m (read_message m) k 5 ≡ f.five) × (section_in m (read_message m) k 7 ≡ f.seven)
unfolding numbered
sections-by-number m x k = (section-shown m x k 1, section-shown m x k 3, section-shown m x k 4, section-shown m x k 5, section-shown m x k 7)

-- ---- no octets

-- a number that is none of the five
none-numbered : (x : Five) (a b c d e : Bool) → cond a true (cond b true (cond c true (cond d true (cond e true false)))) ≡ false
    → cond a x.one (cond b x.three (cond c x.four (cond d x.five (cond e x.seven [])))) ≡ []
none-numbered x true b c d e h = absurd (true≢false h)
none-numbered x false true c d e h = absurd (true≢false h)
none-numbered x false false true d e h = absurd (true≢false h)
none-numbered x false false false true e h = absurd (true≢false h)
none-numbered x false false false false true h = absurd (true≢false h)
none-numbered x false false false false false h = refl

pub none-of-five : (m : List ℕ) (c : Cut) (k n : ℕ) → one_of (1 ∷ 3 ∷ 4 ∷ 5 ∷ 7 ∷ []) n ≡ false → section_in m c k n ≡ []
unfolding section_in numbered
none-of-five m c k n h =
    by_number m (field_of c k) n ∙ none-numbered (shown_in m (field_of c k)) (eqb n 1) (eqb n 3) (eqb n 4) (eqb n 5) (eqb n 7) h

either-none : (t : Bool) (z : List ℕ) → z ≡ [] → cond t [] z ≡ []
either-none true z e = refl
either-none false z e = e

all_none : (n : ℕ) → section_numbered no_five n ≡ []
unfolding numbered
all_none n = either-none (eqb n 1) _ (either-none (eqb n 3) _ (either-none (eqb n 4) _ (either-none (eqb n 5) _ (either-none (eqb n 7) [] refl))))

-- Past the last field, and of a refused message, which has none, no octets are shown.
pub none-past : (m : List ℕ) (c : Cut) (k n : ℕ) → c.count ≤ k → section_in m c k n ≡ []
unfolding section_in
none-past m c k n h =
    by_number m (field_of c k) n
    ∙ ap (λ (t : Bool). section_numbered (shown_in m (cond t (get_or c.fields k no_sections) no_sections)) n) (le-ltb k c.count h)
    ∙ all_none n

-- ---- each field that is shown follows

follows-at : (fs : List Five) (k : ℕ) → AllFollow fs → k < length fs → Follows (get_or fs k no_five)
unfolding AllFollow
follows-at [] k a h = absurd (omega arith)
follows-at (f ∷ fs) zero a h = a.0
follows-at (f ∷ fs) (suc k) a h = follows-at fs k a.1 (omega arith)

pub field-follows : (m : List ℕ) (k : ℕ) → k < (read_message m).count → Follows (shown_in m (field_of (read_message m) k))
field-follows m k h =
    let x = (accepted-exactly-when m).0 (omega arith) in
    let long : length (fields_in x.parts) ≡ (read_message m).count =
    sym (ap length (frame-shown m x.parts x.frame))
    ∙ length-map (places_in x.parts) (shown_in m)
    ∙ sym (ap (λ (c : Cut). c.count) (answer m x)) in
    subst Follows (sym (field-shown m x k)) (follows-at (fields_in x.parts) k x.fields (omega (arith, long)))

-- ---- where they stand, the message has all of their octets

pub field-within : (m : List ℕ) (k : ℕ) → FieldWithin (field_of (read_message m) k) m
field-within m k = by-test (λ (t : Bool). FieldWithin (cond t (get_or (read_message m).fields k no_sections) no_sections) m) (ltb k (read_message m).count) found (λ e. nowhere-within m)
  where
    found : ltb k (read_message m).count ≡ true → FieldWithin (get_or (read_message m).fields k no_sections) m
    found e =
        let x = (accepted-exactly-when m).0 (omega (arith, ltb-true k (read_message m).count e)) in
        subst (λ (f : Sections). FieldWithin f m) (sym (stands_at m x k) ∙ rw e refl) (frame-within m x.parts x.frame k)

-- so each place has a number, as no slice has more octets
pub field-low : (m : List ℕ) → length m < 2 ^ 63 → (k : ℕ) → LowField (field_of (read_message m) k)
field-low m h k =
    let w = field-within m k in
    record {
      one = omega (arith, w.one);
      three = omega (arith, w.three);
      four = omega (arith, w.four);
      five = omega (arith, w.five);
      seven = omega (arith, w.seven);
    }
