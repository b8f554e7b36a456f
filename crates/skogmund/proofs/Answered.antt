-- What the number says that C is answered: which refusal it is, and when it is 0.
-- Assumes nothing.
use Prim.Native.Nat.{ℕ, ◌+◌, ◌*◌, ◌^◌, ◌≤◌, ◌<◌}
use native.Mathlib.Omega.{arith}
use mathlib.Core.Path.{◌≡◌, refl, ap, ◌∙◌}
use mathlib.Core.Logic.{◌↔◌}
use mathlib.Core.Bool.{Bool, true, false, cond, ◌&&◌}
use mathlib.Core.List.{List, [], ◌∷◌}
use lib.Dec.{eqb, ltb, leb}
use lib.IntN.{ℤ}
use lib.ListN.{length, take, drop}
use borrow.Author.Tests.{le-ltb, ltb-false, lt-ltb, ltb-true, le-leb, leb-true, eq-eqb, eqb-true, eqb-false}
use Rattle.octets.specs.Octets.{AllOctets, be_at}
use Rattle.layout.specs.Fields.{Value}
use Rattle.layout.specs.Outcomes.{Outcome, refused, read, refusal}
use Rattle.layout.specs.declared.Refusal.{Refusal}
use Rattle.layout.specs.Refusals.{Row, Listed}
use Rattle.layout.proofs.Ranges.{both_hold}
use Rattle.layout.proofs.Refusals.{Proper, positive, proper}
use Rattle.packing.specs.Section7.{packed_octets}
use Rattle.packing.specs.Unpacking.{unpack_outcome}
use Rattle.packing.specs.Refused.{unpack_table}
use Rattle.packing.proofs.UnpackedExactlyWhen.{unpacked-exactly-when as unpacking}
use Rattle.packing.proofs.RefusalNumbers.{unpack-refuses}
use Rattle.shelf.specs.declared.Shelf.{Shelf}
use Rattle.shelf.specs.Shelves.{slot_at, put_of}
use Rattle.shelf_octets.specs.ShelfOctets.{shelf_in, as_octets}
use Rattle.filing.specs.Filing.{Filing, refused_filing, accepted, filing_of, kept_if, filed_by, filed_of, issue_from}
use Rattle.filing.specs.declared.Filed.{Filed}
use Rattle.filing.specs.Refused.{filing_table}
use Rattle.filing.proofs.FiledExactlyWhen.{filed-exactly-when as exactly-filed}
use Rattle.filing.proofs.RefusalNumbers.{filing-refuses}
use Rattle.queue.specs.declared.QueueFiled.{QueueFiled}
use Rattle.cutting.specs.Cuts.{cut_of}
use Rattle.queue.specs.Queues.{record_step, records_filed, from_start, queue_refusal, refused_queue, accepted_queue, queue_filed}
use Rattle.queue.specs.Spelled.{FollowsQueue}
use Rattle.queue.proofs.Spelled.{accepted-exactly-when as exactly-queued}
use Rattle.report.specs.Texts.{listing}
use Rattle.message.specs.Walk.{Cut}
use Rattle.message.specs.Grammar.{FollowsMessage}
use Rattle.message.specs.Messages.{field_of, read_message}
use Rattle.message.proofs.AcceptedExactlyWhen.{accepted-exactly-when as exactly-message}
use Rattle.message.proofs.RefusalNumbers.{accepted-is-0}
use Rattle.lent.specs.Lent.{Done, done, done_both, over, with_count, if_room}
use Rattle.lent.proofs.Answers.{room-left, room-exactly as exactly}
use Rattle.values.specs.Accepted.{FollowsNumbered}
use Rattle.values.proofs.AcceptedExactlyWhen.{numbered-5, numbered-7}
use Rattle.skogmund.specs.Entries.{code, code_of, coded, no_room, row_unpacked, listing_told}
use Rattle.skogmund.specs.Parts.{part_told}
use Rattle.skogmund.specs.Messages.{field_spans, spans_of, room_for, fields_told, message_told}
use Rattle.skogmund.proofs.Spans.{told_at, told-past}
use Rattle.skogmund.specs.Shelves.{is_shelf, emptied, joined, kept_in, Room, field_kept, filed_field, Files, FieldTold, queue_kept, filed_queue, QueueTold, slot_numbers, slot_shown}

-- ---- which refusal it is

pub taken-apart : (n s p n' s' p' : ℕ) → s < 256 → s' < 256 → p < 2 ^ 32 → p' < 2 ^ 32 → code n s p ≡ code n' s' p' → (n ≡ n') × (s ≡ s') × (p ≡ p')
taken-apart n s p n' s' p' a b c d e = (omega (arith, e), omega (arith, e), omega (arith, e))

-- none that document 01 lists is 0
pub listed-code : (table : List Row) (x : Refusal) → positive table ≡ true → Listed table x → code_of x ≡ 0 → ⊥
listed-code table x p h e = (proper table (refused x.number x.section x.place) p h).0 (omega (arith, e))

-- and what is 0 is read
accepting : (o : Outcome) → Proper o → coded o ≡ 0 → (vs : List Value) × (o ≡ read vs)
accepting (refused number section place) p e = absurd (p.0 (omega (arith, e)))
accepting (read vs) p e = (vs, refl)

-- ---- unpacking: sections 5 and 7 follow, section 7 has the length that N and the bits give, and the row has N places

pub unpacked-exactly-when : (five seven row : List ℕ) → ((row_unpacked five seven row).answer ≡ 0) ↔ (FollowsNumbered 5 five × FollowsNumbered 7 seven × (length seven ≡ 5 + packed_octets (be_at five 6 4) (be_at five 20 1)) × (length row ≡ be_at five 6 4))
unfolding row_unpacked
unpacked-exactly-when five seven row =
    let o = unpack_outcome five seven row in
    let exactly = unpacking five seven row in (
      (λ e. let f = exactly.0 (accepting o (proper unpack_table o refl (unpack-refuses five seven row)) e) in
          ((numbered-5 five).1 f.0, (numbered-7 seven).1 f.1.alone, f.1.whole, f.2)),
      (λ f. ap coded (exactly.1 ((numbered-5 five).0 f.0, record { alone = (numbered-7 seven).0 f.1; whole = f.2 }, f.3)).1),
    )

-- ---- it is 0 exactly where there is room

pub no-room-refuses : no_room ≡ 0 → ⊥
no-room-refuses e = omega (arith, e)

room-exactly : {B R : Type 0} (t : Bool) (after before : B) → (t ≡ true) ↔ R → ((if_room 0 no_room t after before).answer ≡ 0) ↔ R
room-exactly = exactly 0 no_room no-room-refuses

both-exactly : {a b : Bool} {A B : Type 0} → (a ≡ true) ↔ A → (b ≡ true) ↔ B → ((a && b) ≡ true) ↔ (A × B)
both-exactly {a} {b} p q = ((λ e. let x = both_hold a b e in (p.0 x.0, q.0 x.1)), (λ x. rw (p.1 x.0, q.1 x.1)))

shelf-exactly : (s : List ℕ) → (is_shelf s ≡ true) ↔ (length s ≡ 2624)
shelf-exactly s = (eqb-true _ _, eq-eqb _ _)

many-exactly : (n : ℕ) {A : Type 0} (l : List A) → (leb n (length l) ≡ true) ↔ (n ≤ length l)
many-exactly n l = (leb-true _ _, le-leb _ _)

pub part-exactly-when : (part : ℕ) (s : List ℕ) (k : ℕ) (places : List ℕ) → ((part_told part s k places).answer ≡ 0) ↔ (2 ≤ length places)
unfolding part_told
part-exactly-when part s k places = room-exactly _ _ _ (many-exactly 2 places)

pub listed-exactly-when : (q text places : List ℕ) → ((listing_told q text places).answer ≡ 0) ↔ ((length (listing q) ≤ length text) × (0 < length places))
unfolding listing_told
listed-exactly-when q text places = room-exactly _ _ _ (both-exactly (many-exactly (length (listing q)) text) (ltb-true _ _, lt-ltb _ _))

abbrev cut-told : Cut → List ℕ → List ℕ → Bool → Done ℕ (List ℕ × List ℕ)
cut-told c spans places t =
    cond t (fields_told c spans places) (done_both (code_of c.refusal) spans places)

-- the message follows, and there is room for 16 fields and for their count
abbrev TellsMessage : List ℕ → List ℕ → List ℕ → Type 0
TellsMessage m spans places = FollowsMessage m × (160 ≤ length spans) × (0 < length places)

pub message-left : (m spans places : List ℕ) → (message_told m spans places).answer ≡ 0
    → TellsMessage m spans places × ((message_told m spans places).lent ≡ (over spans (spans_of (read_message m)), over places ((read_message m).count ∷ [])))
unfolding message_told
message-left m spans places e = by (read_message m) (λ z. (exactly-message m).0 ((accepted-is-0 m).1 z)) (eqb (read_message m).refusal.number 0) refl e
  where
    by : (c : Cut) → (c.refusal.number ≡ 0 → FollowsMessage m) → (t : Bool) → eqb c.refusal.number 0 ≡ t → (cut-told c spans places t).answer ≡ 0
        → TellsMessage m spans places × ((cut-told c spans places t).lent ≡ (over spans (spans_of c), over places (c.count ∷ [])))
    by c follows true h e =
        let l = room-left 0 no_room no-room-refuses (room_for spans places) _ (spans, places) e in
        let r = both_hold _ _ l.0 in
        ((follows (eqb-true _ _ h), leb-true _ _ r.0, ltb-true _ _ r.1), l.1)
    by c follows false h e = absurd (eqb-false c.refusal.number 0 h (omega (arith, e)))

pub message-exactly-when : (m spans places : List ℕ) → ((message_told m spans places).answer ≡ 0) ↔ (FollowsMessage m × (160 ≤ length spans) × (0 < length places))
unfolding message_told
message-exactly-when m spans places = (
  (λ e. (message-left m spans places e).0),
  (λ f. rw (eq-eqb _ _ ((accepted-is-0 m).0 ((exactly-message m).1 f.0)), le-leb _ _ f.1, lt-ltb _ _ f.2)),
)

-- by field: its ten numbers stand in places 10 k to 10 k + 9, counted from 0, and the places past the last field's are as they were
pub message-spans : (m spans places : List ℕ) → (message_told m spans places).answer ≡ 0
    → ((k : ℕ) → k < (read_message m).count → take 10 (drop (10 * k) (message_told m spans places).lent.0) ≡ field_spans (field_of (read_message m) k))
    × (drop (10 * (read_message m).count) (message_told m spans places).lent.0 ≡ drop (10 * (read_message m).count) spans)
unfolding spans_of
message-spans m spans places e =
    let c = read_message m in
    let left = ap (λ (l : List ℕ × List ℕ). l.0) (message-left m spans places e).1 in (
      (λ k h. ap (λ (l : List ℕ). take 10 (drop (10 * k) l)) left ∙ told_at (λ (j : ℕ). field_spans (field_of c j)) (λ j. refl) spans c.count k h),
      ap (drop (10 * c.count)) left ∙ told-past (λ (j : ℕ). field_spans (field_of c j)) (λ j. refl) spans c.count,
    )

pub emptied-exactly-when : (s : List ℕ) → ((emptied s).answer ≡ 0) ↔ (length s ≡ 2624)
unfolding emptied
emptied-exactly-when s = room-exactly _ _ _ (shelf-exactly s)

pub joined-exactly-when : (s other : List ℕ) → ((joined s other).answer ≡ 0) ↔ ((length s ≡ 2624) × (length other ≡ 2624))
unfolding joined
joined-exactly-when s other = room-exactly _ _ _ (both-exactly (shelf-exactly s) (shelf-exactly other))

pub shown-exactly-when : (s : List ℕ) (slot : ℕ) (values : List ℤ) → ((slot_shown s slot values).answer ≡ 0) ↔ ((slot < 64) × (length s ≡ 2624) × (64 ≤ length values))
unfolding slot_shown
shown-exactly-when s slot values = by (ltb 63 slot) refl
  where
    by : (t : Bool) → ltb 63 slot ≡ t
        → ((cond t (done (code 16 0 0) values) (if_room 0 no_room (is_shelf s && leb 64 (length values)) (with_count (slot_numbers (slot_at (shelf_in s) slot)) values) values)).answer ≡ 0) ↔ ((slot < 64) × (length s ≡ 2624) × (64 ≤ length values))
    by true f = let large = ltb-true 63 slot f in ((λ e. absurd (omega (arith, e))), (λ h. absurd (omega (arith, large, h.0))))
    by false f =
        let small = ltb-false 63 slot f in
        let r = room-exactly _ _ _ (both-exactly (shelf-exactly s) (many-exactly 64 values)) in
        ((λ e. let x = r.0 e in (omega (arith, small), x.0, x.1)), (λ h. r.1 (h.1, h.2)))

-- ---- filing

keep-exactly : (s places : List ℕ) (after : Shelf) (ns : List ℕ) → ((kept_in s places after ns).answer ≡ 0) ↔ Room s places (length ns)
unfolding kept_in
keep-exactly s places after ns = room-exactly _ _ _ (both-exactly (shelf-exactly s) (many-exactly (length ns) places))

keep_left : (s places : List ℕ) (after : Shelf) (ns : List ℕ) → (kept_in s places after ns).answer ≡ 0 → (kept_in s places after ns).lent ≡ (as_octets after, over places ns)
unfolding kept_in
keep_left s places after ns e = (room-left 0 no_room no-room-refuses (is_shelf s && leb (length ns) (length places)) (as_octets after, over places ns) (s, places) e).1

module _ (s : List ℕ) (slot stored : ℕ) (s1 s3 s4 s5 s7 places : List ℕ) where
  abbrev made : Done ℕ (List ℕ × List ℕ)
  made = filed_field s slot stored s1 s3 s4 s5 s7 places

  abbrev filing : Filing
  filing = filing_of slot (issue_from stored) s1 s3 s4 s5 s7

  abbrev Fits : Type 0
  Fits = Files s slot stored s1 s3 s4 s5 s7 places

  abbrev by : Filing → Done ℕ (List ℕ × List ℕ)
  by f = field_kept s places (filed_by (shelf_in s) slot f).shelf (filed_by (shelf_in s) slot f).answer

  kept-exactly : (t : Bool) (x : Shelf) → ((field_kept s places x (kept_if t)).answer ≡ 0) ↔ Room s places 1
  unfolding field_kept
  kept-exactly true x = keep-exactly s places x (1 ∷ [])
  kept-exactly false x = keep-exactly s places x (0 ∷ [])

  -- the shelf and what C is told of the answer
  abbrev Left : Filed → Done ℕ (List ℕ × List ℕ) → Type 0
  Left x d = (d.lent.0 ≡ as_octets x.shelf) × FieldTold x.answer places d.lent.1

  kept-left : (t : Bool) (x : Shelf) → (field_kept s places x (kept_if t)).answer ≡ 0 → Left (record { shelf = x; answer = kept_if t }) (field_kept s places x (kept_if t))
  unfolding field_kept
  kept-left true x e = let l = keep_left s places x (1 ∷ []) e in (ap (λ (l : List ℕ × List ℕ). l.0) l, ap (λ (l : List ℕ × List ℕ). l.1) l)
  kept-left false x e = let l = keep_left s places x (0 ∷ []) e in (ap (λ (l : List ℕ × List ℕ). l.0) l, ap (λ (l : List ℕ × List ℕ). l.1) l)

  -- the shelf that filing makes of these octets is then the one that is left
  pub field-left : made.answer ≡ 0 → Fits × Left (filed_of (shelf_in s) slot (issue_from stored) s1 s3 s4 s5 s7) made
  unfolding filed_field field_kept filed_of filed_by
  field-left e = by_number (ltb 4294967296 stored) refl e
    where
      by-filing : stored ≤ 4294967296 → (f : Filing) → filing ≡ f → (by f).answer ≡ 0 → Fits × Left (filed_by (shelf_in s) slot f) (by f)
      by-filing h (refused_filing number section place) g e =
          let x = refusal number section place in
          absurd (listed-code filing_table x refl (filing-refuses (shelf_in s) slot (issue_from stored) s1 s3 s4 s5 s7 x (ap (λ (f : Filing). (filed_by (shelf_in s) slot f).answer) g)) e)
      by-filing h (accepted card) g e =
          let put = put_of (shelf_in s) slot card in
          ((h, (exactly-filed slot (issue_from stored) s1 s3 s4 s5 s7).0 (card, g), (kept-exactly put.changed put.shelf).0 e), kept-left put.changed put.shelf e)

      by_number : (t : Bool) → ltb 4294967296 stored ≡ t → (cond t (done_both (code 19 0 0) s places) (by filing)).answer ≡ 0
          → Fits × Left (filed_by (shelf_in s) slot filing) (cond t (done_both (code 19 0 0) s places) (by filing))
      by_number true h e = absurd (omega (arith, e))
      by_number false h e = by-filing (ltb-false _ _ h) filing refl e

  pub filed-exactly-when : (made.answer ≡ 0) ↔ Fits
  unfolding filed_field field_kept filed_of filed_by
  filed-exactly-when = (
    (λ e. (field-left e).0),
    λ f. (
        let card = (exactly-filed slot (issue_from stored) s1 s3 s4 s5 s7).1 f.1 in
        ap (λ (t : Bool). (cond t (done_both (code 19 0 0) s places) (by filing)).answer) (le-ltb _ _ f.0)
        ∙ ap (λ (g : Filing). (by g).answer) card.1
        ∙ (kept-exactly (put_of (shelf_in s) slot card.0).changed (put_of (shelf_in s) slot card.0).shelf).1 f.2
        ),
  )

abbrev queued : List ℕ → List ℕ → Bool → QueueFiled
queued s q t = cond t (accepted_queue (records_filed (from_start (shelf_in s)) (cut_of record_step q).items)) (refused_queue (shelf_in s) (queue_refusal q))

-- the shelf and the counts that filing the queue makes
abbrev QueueLeft : List ℕ → QueueFiled → Done ℕ (List ℕ × List ℕ) → Type 0
QueueLeft places x d = (d.lent.0 ≡ as_octets x.shelf) × QueueTold x.answer places d.lent.1

pub queue-left : (s q places : List ℕ) → (filed_queue s q places).answer ≡ 0 → (queue_refusal q ≡ 0) × Room s places 3 × QueueLeft places (queue_filed (shelf_in s) q) (filed_queue s q places)
unfolding filed_queue queue_kept queue_filed
queue-left s q places e = by (eqb (queue_refusal q) 0) refl e
  where
    by : (t : Bool) → eqb (queue_refusal q) 0 ≡ t → (queue_kept s places (queued s q t).shelf (queued s q t).answer).answer ≡ 0
        → (queue_refusal q ≡ 0) × Room s places 3 × QueueLeft places (queued s q t) (queue_kept s places (queued s q t).shelf (queued s q t).answer)
    by true h e =
        let l = keep_left s places _ _ e in
        (eqb-true _ _ h, (keep-exactly s places _ _).0 e, (ap (λ (l : List ℕ × List ℕ). l.0) l, ap (λ (l : List ℕ × List ℕ). l.1) l))
    by false h e = absurd (eqb-false (queue_refusal q) 0 h (omega (arith, e)))

pub queue-exactly-when : (s q places : List ℕ) → AllOctets q → ((filed_queue s q places).answer ≡ 0) ↔ (FollowsQueue q × Room s places 3)
unfolding filed_queue queue_kept queue_filed
queue-exactly-when s q places o = (
  (λ e. let k = queue-left s q places e in ((exactly-queued q o).0 k.0, k.1)),
  (λ f. ap (λ (t : Bool). (queue_kept s places (queued s q t).shelf (queued s q t).answer).answer) (eq-eqb _ _ ((exactly-queued q o).1 f.0)) ∙ (keep-exactly s places _ _).1 f.1),
)
