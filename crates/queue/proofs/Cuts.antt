-- The records of a queue as items that it is cut into: where one stands, and that it is the same whatever stands behind it.
-- Assumes nothing.
use Prim.Native.Nat.{ℕ, ◌+◌, ◌-◌, ◌≤◌}
use native.Mathlib.Omega.{arith}
use native.Mathlib.Decide.{dec_le}
use mathlib.Core.Path.{◌≡◌, refl, ap, sym, subst, ◌∙◌}
use mathlib.Core.Bool.{Bool, true, false, cond}
use mathlib.Core.List.{List, [], ◌∷◌, ◌++◌}
use lib.Dec.{ltb}
use lib.ListN.{length, take, drop, length-drop, length-append}
use lib.Seq.{take-append-le, drop-append-le}
use Rattle.std.proofs.lemmas.List.{take_rest}
use borrow.Author.Tests.{ltb-false, le-ltb, eq-eqb, ne_eqb}
use Rattle.std.specs.Prelude.{Option, Some, None}
use Rattle.cutting.specs.Numbers.{found, leading_number}
use Rattle.cutting.specs.Cuts.{item, in_front, at_end, cut_of}
use Rattle.cutting.proofs.Taken.{taken, number-stands, number-ahead, number-after}
use Rattle.cutting.proofs.Cuts.{Advances, cut-item, cut-stopped, cut-end, by-cut}
use Rattle.cutting.proofs.Strung.{LooksNoFurther}
use Rattle.filing.specs.Filing.{issue_from}
use Rattle.queue.specs.Records.{record_of}
use Rattle.queue.specs.Queues.{Sent, record_in, record_item, record_step}
use Rattle.queue.specs.declared.Head.{Head}

-- ---- a record that is read

-- its three numbers stand one behind the other, and then its body, which ends within the octets
pub record Stands (s : List ℕ) (h : Head) : Type 0 where
  pub stored : ℕ
  pub size : ℕ
  pub a : ℕ
  pub b : ℕ
  pub c : ℕ
  pub first : leading_number s ≡ found h.slot a
  pub second : leading_number (drop a s) ≡ found stored b
  pub third : leading_number (drop (a + b) s) ≡ found size c
  pub named : h.issue ≡ issue_from stored
  pub starts : h.start ≡ a + b + c
  pub ends : h.end ≡ a + b + c + size
  pub inside : a + b + c + size ≤ length s

pub stands : (s : List ℕ) (h : Head) → record_of s ≡ Some h → Stands s h
unfolding record_of
stands s h e =
    let x = number-stands (leading_number s) _ (Some h) broken e in
    let y = number-stands (leading_number (drop x.1 s)) _ (Some h) broken x.3 in
    let z = number-stands (leading_number (drop (x.1 + y.1) s)) _ (Some h) broken y.3 in
    by-room x.0 x.1 y.0 y.1 z.0 z.1 x.2 y.2 z.2 (ltb (length s) (x.1 + y.1 + z.1 + z.0)) refl z.3
  where
    broken : None ≡ Some h → ⊥
    broken e = let z : ◌≡◌ {A = ℕ} 0 1 = cc in omega arith

    by-room : (slot a stored b size c : ℕ) → leading_number s ≡ found slot a → leading_number (drop a s) ≡ found stored b → leading_number (drop (a + b) s) ≡ found size c
        → (t : Bool) → ltb (length s) (a + b + c + size) ≡ t
        → cond t None (Some (record { slot = slot; issue = issue_from stored; start = a + b + c; end = a + b + c + size })) ≡ Some h → Stands s h
    by-room slot a stored b size c f g k true t e = let z : ◌≡◌ {A = ℕ} 0 1 = cc in absurd (omega arith)
    by-room slot a stored b size c f g k false t e =
        let same : slot ≡ h.slot = cc in
        record {
          stored = stored;
          size = size;
          a = a;
          b = b;
          c = c;
          first = f ∙ ap (λ (n : ℕ). found n a) same;
          second = g;
          third = k;
          named = cc;
          starts = cc;
          ends = cc;
          inside = ltb-false (length s) (a + b + c + size) t;
        }

-- ---- it is the same whatever stands behind it

pub record-ahead : (p q : List ℕ) (h : Head) → record_of p ≡ Some h → record_of (p ++ q) ≡ Some h
unfolding record_of
record-ahead p q h e =
    let r = stands p h e in
    let first = taken _ _ r.first in
    let room : ltb (length (p ++ q)) (r.a + r.b + r.c + r.size) ≡ false = le-ltb (length (p ++ q)) (r.a + r.b + r.c + r.size) (omega (arith, r.inside, length-append p q)) in
    simp (
      number-ahead p q _ _ r.first,
      number-after r.a p q _ _ first.inside r.second,
      number-after (r.a + r.b) p q _ _ (omega (arith, r.inside)) r.third,
      room,
    )
    (λ i. Some (record { slot = h.slot; issue = sym r.named i; start = sym r.starts i; end = sym r.ends i }))

pub record-in : (p q : List ℕ) (h : Head) → record_of p ≡ Some h → record_in (p ++ q) h ≡ record_in p h
record-in p q h e =
    let r = stands p h e in
    let start : h.start ≤ length p = omega (arith, r.starts, r.inside) in
    let size : h.end - h.start ≤ length (drop h.start p) = omega (arith, r.starts, r.ends, r.inside, length-drop h.start p) in
    ap (λ (s : List ℕ). record { slot = h.slot; issue = h.issue; body = s })
    (ap (take (h.end - h.start)) (drop-append-le h.start p q start) ∙ take-append-le (h.end - h.start) (drop h.start p) q size)

-- ---- so a queue is cut into records as octets are into items

-- by what is found of a record
pub by-record : (s : List ℕ) (x : Sent) (end : ℕ) → record_step s ≡ item x end → (h : Head) × (record_of s ≡ Some h) × (item (record_in s h) h.end ≡ item x end)
unfolding record_step
by-record s x end e = by (record_of s) refl e
  where
    by : (r : Option Head) → record_of s ≡ r → record_item s r ≡ item x end → (h : Head) × (record_of s ≡ Some h) × (item (record_in s h) h.end ≡ item x end)
    by None f e = let z : ◌≡◌ {A = ℕ} 0 1 = cc in absurd (omega arith)
    by (Some h) f e = (h, f, e)

pub records-advance : Advances record_step
records-advance s x end e =
    let w = by-record s x end e in
    let found = w.2 in
    let same : w.0.end ≡ end = cc in
    let r = stands s w.0 w.1 in
    let least = (taken _ _ r.first).some in
    record { some = omega (arith, least, r.ends); inside = omega (arith, r.ends, r.inside) }

pub records-look-no-further : LooksNoFurther record_step
unfolding record_step
records-look-no-further p q x end e =
    let w = by-record p x end e in
    ap (record_item (p ++ q)) (record-ahead p q w.0 w.1) ∙ ap (λ (r : Sent). item r w.0.end) (record-in p q w.0 w.1) ∙ w.2

-- what holds of octets and no records, and of a record and those that follow it if it holds of these, holds of the records of a queue
pub by-records : (P : List ℕ → List Sent → Type 0) → ((s : List ℕ) → P s []) → ((s : List ℕ) (h : Head) (rs : List Sent) → record_of s ≡ Some h → P (drop h.end s) rs → P s (record_in s h ∷ rs))
    → (q : List ℕ) → P q (cut_of record_step q).items
by-records P nothing one_more =
    by-cut record_step records-advance P nothing
    (λ s x end rs e p.
    let w = by-record s x end e in
    let found = w.2 in
    let same : record_in s w.0 ≡ x = cc in
    let ends : end ≡ w.0.end = cc in
    subst (λ (r : Sent). P s (r ∷ rs)) same (one_more s w.0 rs w.1 (subst (λ (k : ℕ). P (drop k s) rs) ends p)))

-- ---- and a walk goes from record to record

-- a record stands there: it is given, and the rest, as it is lent, is cut behind it
pub record Given (s : List ℕ) (h : Head) : Type 0 where
  pub bodied : h.start ≤ h.end
  pub inside : h.end ≤ length s
  pub cut : cut_of record_step s ≡ in_front (record_in s h) (cut_of record_step (take (length s - h.end) (drop h.end s)))

pub given : (s : List ℕ) (h : Head) → record_of s ≡ Some h → Given s h
unfolding record_step
given s h e =
    let here : record_step s ≡ item (record_in s h) h.end = ap (record_item s) e in
    let r = stands s h e in
    record {
      bodied = omega (arith, r.starts, r.ends);
      inside = (records-advance s _ _ here).inside;
      cut = cut-item record_step records-advance s _ _ here ∙ ap (λ (r : List ℕ). in_front (record_in s h) (cut_of record_step r)) (sym (take_rest s h.end));
    }

-- none does, there or at the end
pub none_given : (s : List ℕ) → record_of s ≡ None → cut_of record_step s ≡ record { items = []; whole = at_end s }
unfolding record_step
none_given s e = by_length (dec_le 1 (length s))
  where
    by_length : Dec (1 ≤ length s) → cut_of record_step s ≡ record { items = []; whole = at_end s }
    by_length (yes l) = cut-stopped record_step records-advance s l (ap (record_item s) e) ∙ ap (λ (t : Bool). record { items = []; whole = t }) (sym (ne_eqb (length s) 0 (λ z. omega arith)))
    by_length (no l) =
        let nothing : length s ≡ 0 = omega arith in
        cut-end record_step records-advance s (omega arith) ∙ ap (λ (t : Bool). record { items = []; whole = t }) (sym (eq-eqb (length s) 0 nothing))

-- each has an octet of its own
pub records-few : (q : List ℕ) → length (cut_of record_step q).items ≤ length q
records-few =
    by-cut record_step records-advance (λ s rs. length rs ≤ length s) (λ s. omega arith)
    (λ s x end rs e few. let i = records-advance s x end e in omega (arith, few, i.some, i.inside, length-drop end s))
