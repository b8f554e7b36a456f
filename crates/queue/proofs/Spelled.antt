-- A queue that is written record by record is cut into those records, and what a queue is cut into, written again, is that queue.
-- Assumes nothing.
use Prim.Native.Nat.{ℕ, ◌+◌, ◌-◌, ◌≤◌}
use native.Mathlib.Omega.{arith}
use mathlib.Core.Path.{◌≡◌, refl, sym, ap, ap₂, subst, ◌∙◌}
use mathlib.Core.Logic.{◌↔◌}
use mathlib.Core.Bool.{Bool, true, false, cond}
use mathlib.Core.List.{List, ◌++◌, append_assoc}
use lib.Dec.{ltb, eqb}
use lib.ListN.{length, drop, take, length-append, length-drop}
use lib.Seq.{length-take-le, take-length, drop-append_seam, drop-append-add, take-add}
use borrow.Author.Tests.{le-ltb, ltb-false, ne_eqb, eq-eqb, eqb-true, eqb-false}
use Rattle.octets.specs.Octets.{AllOctets}
use Rattle.octets.proofs.Laws.{drop-octets}
use Rattle.std.specs.Prelude.{Option, Some, None, Ok, Err}
use Rattle.cutting.specs.Numbers.{found, leading_number, with_number, groups, spelled}
use Rattle.cutting.specs.Cuts.{Cut, item, cut_of}
use Rattle.cutting.specs.declared.Number.{Number}
use Rattle.cutting.proofs.OneSpelling.{one-spelling, of-groups, has_one}
use Rattle.cutting.proofs.Taken.{taken}
use Rattle.cutting.proofs.Strung.{Spells, each_item, cut-strung, strung-cut}
use Rattle.layout.specs.Outcomes.{refusal}
use Rattle.shelf.specs.declared.Shelf.{Shelf}
use Rattle.filing.specs.Filing.{issue_from}
use Rattle.queue.specs.Records.{bodied, record_of}
use Rattle.queue.specs.Queues.{Sent, record_in, record_item, record_step, records_filed, from_start, queue_refusal, checked, accepted_queue, queue_filed}
use Rattle.queue.specs.Spelled.{stored_of, spelled_record, spelled_all, Spellable, AllSpellable, FollowsQueue}
use Rattle.queue.specs.declared.Head.{Head}
use Rattle.queue.proofs.Cuts.{Stands, stands, by-record, records-advance, records-look-no-further}

-- ---- an issue is stored as issue + 1, or 0

issue-back : (i : Option ℕ) → issue_from (stored_of i) ≡ i
issue-back None = refl
issue-back (Some n) = rw (ne_eqb (n + 1) 0 (λ e. omega arith)) (ap Some (omega arith))

stored_back : (n : ℕ) → stored_of (issue_from n) ≡ n
stored_back n = by (eqb n 0) refl
  where
    by : (t : Bool) → eqb n 0 ≡ t → stored_of (cond t None (Some (n - 1))) ≡ n
    by true e = sym (eqb-true n 0 e)
    by false e = let some = eqb-false n 0 e in omega arith

-- ---- what a record spells is read as that record

module _ (r : Sent) (p : Spellable r) where
  abbrev A : List ℕ
  A = spelled 5 r.slot

  abbrev B : List ℕ
  B = spelled 5 (stored_of r.issue)

  abbrev C : List ℕ
  C = spelled 5 (length r.body)

  abbrev octets : List ℕ
  octets = A ++ (B ++ (C ++ r.body))

  abbrev start : ℕ
  start = length A + length B + length C

  abbrev end : ℕ
  end = start + length r.body

  abbrev head : Head
  head = record { slot = r.slot; issue = r.issue; start = start; end = end }

  behind-a : drop (length A) octets ≡ B ++ (C ++ r.body)
  behind-a = drop-append_seam A _

  behind-b : drop (length A + length B) octets ≡ C ++ r.body
  behind-b = drop-append-add A _ (length B) ∙ drop-append_seam B _

  behind-c : drop start octets ≡ r.body
  behind-c =
      let n : start ≡ length A + (length B + length C) = omega arith in
      ap (λ (n : ℕ). drop n octets) n ∙ drop-append-add A (B ++ (C ++ r.body)) (length B + length C) ∙ drop-append-add B (C ++ r.body) (length C) ∙ drop-append_seam C _

  whole : length octets ≡ end
  whole = simp length-append (omega arith)

  stands-there : record_of octets ≡ Some head
  unfolding record_of
  stands-there =
      ap (λ (x : Option Number). with_number x None (λ slot a. with_number (leading_number (drop a octets)) None (λ stored b. with_number (leading_number (drop (a + b) octets)) None (λ size c. bodied octets slot stored (a + b + c) size)))) (has_one r.slot _ p.slot)
      ∙ ap (λ (x : Option Number). with_number x None (λ stored b. with_number (leading_number (drop (length A + b) octets)) None (λ size c. bodied octets r.slot stored (length A + b + c) size))) (ap leading_number behind-a ∙ has_one _ _ p.issue)
      ∙ ap (λ (x : Option Number). with_number x None (λ size c. bodied octets r.slot (stored_of r.issue) (length A + length B + c) size)) (ap leading_number behind-b ∙ has_one _ _ p.body)
      ∙ ap (λ (t : Bool). cond t None (Some (record { slot = r.slot; issue = issue_from (stored_of r.issue); start = start; end = end }))) (le-ltb (length octets) end (omega (arith, whole)))
      ∙ ap (λ (i : Option ℕ). Some (record { slot = r.slot; issue = i; start = start; end = end })) (issue-back r.issue)

  that-record : record_in octets head ≡ r
  that-record =
      let n : end - start ≡ length r.body = omega arith in
      let body : take (end - start) (drop start octets) ≡ r.body = ap₂ take n behind-c ∙ take-length r.body in
      λ i. record { slot = r.slot; issue = r.issue; body = body i }

  record-spells : Spells record_step (spelled_record r) r
  unfolding record_step spelled_record
  record-spells rest =
      records-look-no-further octets rest r (length octets) (ap (record_item octets) stands-there ∙ ap₂ item that-record (sym whole))

pub cut-spelled : (rs : List Sent) → AllSpellable rs → cut_of record_step (spelled_all rs) ≡ record { items = rs; whole = true }
cut-spelled rs p = cut-strung record_step records-advance spelled_record rs (λ r m. record-spells r (p r m))

-- ---- what is read as a record is what the record spells

number_spelled : (s : List ℕ) (n count : ℕ) → AllOctets s → leading_number s ≡ found n count → spelled 5 n ≡ take count s
unfolding leading_number
number_spelled s n count o e = sym (one-spelling 5 s n count o (of-groups (groups 5 s) n count e))

module _ (s : List ℕ) (x : Sent) (end : ℕ) (e : record_step s ≡ item x end) where
  abbrev h : Head
  h = (by-record s x end e).0

  there : Stands s h
  there = stands s h (by-record s x end e).1

  is_x : x ≡ record_in s h
  is_x = let found = (by-record s x end e).2 in cc

  ends_there : end ≡ there.a + there.b + there.c + there.size
  ends_there = let found = (by-record s x end e).2 in let same : end ≡ h.end = cc in same ∙ there.ends

  abbrev first : ℕ
  first = there.a + there.b + there.c

  -- its body is the octets behind its three numbers
  body_is : (record_in s h).body ≡ take there.size (drop first s)
  body_is =
      let n : h.end - h.start ≡ there.size = omega (arith, there.ends, there.starts) in
      ap₂ (λ (n k : ℕ). take n (drop k s)) n there.starts

  body-size : length (record_in s h).body ≡ there.size
  body-size = ap length body_is ∙ length-take-le there.size (drop first s) (omega (arith, there.inside, length-drop first s))

  found-spellable : Spellable x
  found-spellable =
      subst Spellable (sym is_x)
      (record {
        slot = (taken _ _ there.first).small;
        issue = omega (arith, (taken _ _ there.second).small, ap stored_of there.named ∙ stored_back there.stored);
        body = omega (arith, (taken _ _ there.third).small, body-size);
      })

  found-spelled : AllOctets s → spelled_record x ≡ take end s
  unfolding spelled_record
  found-spelled o =
      let one = number_spelled s _ _ o there.first in
      let two = ap (spelled 5) (ap stored_of there.named ∙ stored_back there.stored) ∙ number_spelled _ _ _ (drop-octets there.a s o) there.second in
      let three = ap (spelled 5) body-size ∙ number_spelled _ _ _ (drop-octets (there.a + there.b) s o) there.third in
      ap spelled_record is_x
      ∙ ap₂ ◌++◌ one (ap₂ ◌++◌ two (ap₂ ◌++◌ three body_is))
      ∙ sym (parts there.a there.b there.c there.size)
      ∙ ap (λ (n : ℕ). take n s) (sym ends_there)
    where
      parts : (a b c d : ℕ) → take (a + b + c + d) s ≡ take a s ++ (take b (drop a s) ++ (take c (drop (a + b) s) ++ take d (drop (a + b + c) s)))
      parts a b c d =
          rw (take-add, take-add, take-add) (append_assoc (take a s ++ take b (drop a s)) (take c (drop (a + b) s)) (take d (drop (a + b + c) s)) ∙ append_assoc (take a s) (take b (drop a s)) (take c (drop (a + b) s) ++ take d (drop (a + b + c) s)))

-- written again they are the queue, and each can be written
pub spelled-again : (q : List ℕ) → AllOctets q → (cut_of record_step q).whole ≡ true → spelled_all (cut_of record_step q).items ≡ q
spelled-again q o w = strung-cut record_step records-advance spelled_record AllOctets (λ s n. drop-octets n s) (λ s x end o e. found-spelled s x end e o) q o w

pub all-spellable : (q : List ℕ) → AllSpellable (cut_of record_step q).items
all-spellable = each_item record_step records-advance Spellable found-spellable

-- ---- so a queue is accepted exactly when it is short enough and written by records

pub accepted-exactly-when : (q : List ℕ) → AllOctets q → (queue_refusal q ≡ 0) ↔ FollowsQueue q
unfolding queue_refusal
accepted-exactly-when q o = (
  by (ltb 65536 (length q)) refl (cut_of record_step q).whole refl,
  (λ f.
      let cut : (cut_of record_step q).whole ≡ true =
      ap (λ (s : List ℕ). (cut_of record_step s).whole) f.written ∙ ap (λ (c : Cut Sent). c.whole) (cut-spelled f.records f.spellable)
      in
      rw (le-ltb 65536 (length q) f.small, cut)),
)
  where
    by : (t : Bool) → ltb 65536 (length q) ≡ t → (w : Bool) → (cut_of record_step q).whole ≡ w → ◌≡◌ {A = ℕ} (cond t 2 (cond w 0 19)) 0 → FollowsQueue q
    by true t w f e = absurd (omega arith)
    by false t true f e =
        record { small = ltb-false _ _ t; records = (cut_of record_step q).items; spellable = all-spellable q; written = sym (spelled-again q o f) }
    by false t false f e = absurd (omega arith)

pub checked-exactly-when : (q : List ℕ) → AllOctets q → (checked q ≡ Ok (tt {0})) ↔ FollowsQueue q
unfolding checked
checked-exactly-when q o = (
  (λ e. (accepted-exactly-when q o).0 (eqb-true (queue_refusal q) 0 (by (eqb (queue_refusal q) 0) e))),
  (λ f. ap (λ (t : Bool). cond t (Ok (tt {0})) (Err (refusal (queue_refusal q) 0 0))) (eq-eqb _ _ ((accepted-exactly-when q o).1 f))),
)
  where
    by : (t : Bool) → cond t (Ok (tt {0})) (Err (refusal (queue_refusal q) 0 0)) ≡ Ok (tt {0}) → t ≡ true
    by true e = refl
    by false e = let z : ◌≡◌ {A = ℕ} 0 1 = cc in absurd (omega arith)

-- and the records that are then filed are these
pub filed-spelled : (s : Shelf) (rs : List Sent) → AllSpellable rs → length (spelled_all rs) ≤ 65536 → queue_filed s (spelled_all rs) ≡ accepted_queue (records_filed (from_start s) rs)
unfolding queue_filed queue_refusal
filed-spelled s rs p l =
    let cut = cut-spelled rs p in
    rw (le-ltb 65536 (length (spelled_all rs)) l, cut)
