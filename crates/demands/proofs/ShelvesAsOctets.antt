-- Shelves as octets: each shelf that the entries make of octets is read back from its own octets, so that demand 3 holds of octets that are
-- stored or sent between two calls. Whatever octets there are say the shelf of a history; zeroed ones the empty shelf. Joining octets
-- commutes and associates; joined with themselves, octets say the shelf that they said.
-- Assumes nothing.
use Prim.Native.Nat.{ℕ, zero, suc, ◌+◌, ◌-◌, ◌*◌, ◌^◌, ◌<◌, ◌≤◌}
use native.Mathlib.Omega.{arith}
use mathlib.Core.Path.{◌≡◌, refl, sym, ap, subst⁻¹, ◌∙◌}
use mathlib.Core.Bool.{Bool, true, false, cond}
use mathlib.Core.List.{List, [], ◌∷◌}
use mathlib.Core.Logic.{◌≢◌}
use Rattle.std.proofs.Common.{Some, None, IfSome}
use lib.Dec.{eqb}
use lib.IntN.{ℤ, pos, negsuc, nat_abs, ◌*ℤ◌}
use lib.ListN.{drop, replicate}
use lib.Signed.{mag}
use Rattle.octets.specs.Octets.{octet, be_at, sign_of, real_year, AllOctets}
use Rattle.octets.proofs.Laws.{be_at-below, part_length, take-octets, drop-octets}
use Rattle.octets.proofs.Signs.{abs-add, abs-mul, sign-abs}
use Rattle.identification.specs.Section1.{real_year_at}
use Rattle.identification.specs.declared.Template.{Template}
use Rattle.identification.specs.declared.Template.TheVariants.{None as no_template, Calendar, Offset, CalendarAndOffset}
use Rattle.shelf.specs.declared.Shelf.{Shelf}
use Rattle.shelf.specs.Shelves.{Slot, slot_at, empty_shelf, join_shelf}
use Rattle.shelf.specs.History.{Keeps}
use Rattle.shelf_octets.specs.ShelfOctets.{shelf_in, as_octets, join_octets, Held, Stored}
use Rattle.shelf_octets.proofs.Laws as laws
use Rattle.std.specs.Prelude.{Option, Some, None}
use Rattle.filing.specs.Filing.{Filing, refused_filing, accepted, issue_of, filing_of, filed_by, filed_of, issue_from}
use Rattle.filing.proofs.FiledExactlyWhen.{filed-exactly-when, filed-card}
use Rattle.cutting.specs.Cuts.{cut_of}
use Rattle.cutting.specs.Sections.{stretch}
use Rattle.cutting.proofs.Taken.{taken}
use Rattle.queue.specs.declared.Head.{Head}
use Rattle.queue.specs.declared.Progress.{Progress}
use Rattle.queue.specs.declared.Ends.{Ends}
use Rattle.queue.specs.Records.{record_of}
use Rattle.queue.specs.Bodies.{body_of}
use Rattle.queue.specs.Queues.{Sent, record_in, body_filing, record_filing, record_filed, record_step, one_more, records_filed, from_start, queue_refusal, refused_queue, accepted_queue, queue_filed}
use Rattle.queue.specs.History.{History, start, put, file, queue, join, shelf_of, accepted_at}
use Rattle.queue.proofs.Histories.{greatest-card}
use Rattle.queue.proofs.HeldCards.{put_if, cards_put, tidy-is-history}
use Rattle.queue.proofs.QueueIsJoining.{queue-is-joining, queue-again}
use Rattle.queue.proofs.Cuts.{stands, by-records}
use Rattle.demands.specs.Histories.{Given, Leaves, Writes}

-- ---- the card of a field that is accepted

mag-abs : (z : ℤ) → mag z ≤ nat_abs z
mag-abs (pos n) = omega arith
mag-abs (negsuc n) = omega arith

real-year-small : (year offset : ℕ) → year < 256 ^ 2 → offset < 256 ^ 2 → mag (real_year (sign_of 2 year) (sign_of 2 offset)) < 2 ^ 31
real-year-small year offset y o =
    let a = sign_of 2 year in
    let b = sign_of 2 offset in
    omega (arith, mag-abs (real_year a b), abs-add a (pos 10000 *ℤ b), abs-mul 10000 b, sign-abs 2 year (omega arith), sign-abs 2 offset (omega arith))

year-small : (template : Template) (s : List ℕ) → AllOctets s → mag (real_year_at template s) < 2 ^ 31
unfolding real_year_at
year-small no_template s a = omega (arith, be_at-below s 13 2 a)
year-small Calendar s a = omega (arith, be_at-below s 13 2 a)
year-small Offset s a = real-year-small (be_at s 13 2) (be_at s 24 2) (be_at-below s 13 2 a) (be_at-below s 24 2 a)
year-small CalendarAndOffset s a = real-year-small (be_at s 13 2) (be_at s 25 2) (be_at-below s 13 2 a) (be_at-below s 25 2 a)

-- a card that is accepted is one that a machine has
abbrev HeldIf : Filing → Type 0
HeldIf (refused_filing number section place) = Unit {0}
HeldIf (accepted card) = Held card

filing-held : (slot : ℕ) (issue : Option ℕ) (s1 s3 s4 s5 s7 : List ℕ) → AllOctets s1 → issue_of issue < 2 ^ 32 → HeldIf (filing_of slot issue s1 s3 s4 s5 s7)
filing-held slot issue s1 s3 s4 s5 s7 a h = by-filing (filing_of slot issue s1 s3 s4 s5 s7) refl
  where
    by-filing : (f : Filing) → filing_of slot issue s1 s3 s4 s5 s7 ≡ f → HeldIf f
    by-filing (refused_filing number section place) e = tt
    by-filing (accepted card) e =
        let g = ((filed-exactly-when slot issue s1 s3 s4 s5 s7).0 (card, e)).gregorian in
        subst⁻¹ Held (filed-card slot issue s1 s3 s4 s5 s7 card e g.0 g.1) (record { year = year-small g.0 s1 a; issue = h; product = part_length s4 8 27 })

filed-stored : (s : Shelf) (slot : ℕ) (f : Filing) → Stored s → HeldIf f → Stored (filed_by s slot f).shelf
unfolding filed_by
filed-stored s slot (refused_filing number section place) t h = t
filed-stored s slot (accepted card) t h = laws.stored-put s slot card t h

-- ---- the shelves that filing a field and filing a queue make

stored-filed : (s : Shelf) (slot : ℕ) (issue : Option ℕ) (s1 s3 s4 s5 s7 : List ℕ) → Stored s → AllOctets s1 → issue_of issue < 2 ^ 32
    → Stored (filed_of s slot issue s1 s3 s4 s5 s7).shelf
unfolding filed_of
stored-filed s slot issue s1 s3 s4 s5 s7 t a h = filed-stored s slot (filing_of slot issue s1 s3 s4 s5 s7) t (filing-held slot issue s1 s3 s4 s5 s7 a h)

-- what a queue of octets says in a record
record Told (r : Sent) : Type 0 where
  issue : issue_of r.issue < 2 ^ 32
  body : AllOctets r.body

abbrev AllTold : List Sent → Type 0
AllTold [] = Unit {0}
AllTold (r ∷ rs) = Told r × AllTold rs

pub issue-small : (stored : ℕ) → stored ≤ 4294967296 → issue_of (issue_from stored) < 2 ^ 32
issue-small stored h = by_zero (eqb stored 0)
  where
    by_zero : (t : Bool) → issue_of (cond t None (Some (stored - 1))) < 2 ^ 32
    by_zero true = omega arith
    by_zero false = omega arith

record-told : (s : List ℕ) (h : Head) → AllOctets s → record_of s ≡ Some h → Told (record_in s h)
record-told s h a e =
    let x = stands s h e in
    record {
      issue = subst⁻¹ (λ (i : Option ℕ). issue_of i < 2 ^ 32) x.named (issue-small x.stored (taken _ _ x.second).small);
      body = take-octets (h.end - h.start) (drop h.start s) (drop-octets h.start s a);
    }

cut-told : (s : List ℕ) → AllOctets s → AllTold (cut_of record_step s).items
cut-told = by-records (λ s rs. AllOctets s → AllTold rs) (λ s a. tt) (λ s h rs e others a. (record-told s h a e, others (drop-octets h.end s a)))

record-held : (r : Sent) → Told r → HeldIf (record_filing r)
unfolding record_filing body_filing
record-held r t = by-body (body_of r.body)
  where
    by-body : (b : Option Ends) → HeldIf (body_filing r.slot r.issue r.body b)
    by-body None = tt
    by-body (Some ends) = filing-held r.slot r.issue (stretch r.body 0 ends.one) _ _ _ _ (take-octets (ends.one - 0) r.body t.body) t.issue

records-stored : (rs : List Sent) (p : Progress) → AllTold rs → Stored p.shelf → Stored (records_filed p rs).shelf
unfolding records_filed record_filed
records-stored [] p t s = s
records-stored (r ∷ rs) p t s =
    records-stored rs (one_more p.counts (record_filed p.shelf r)) t.1
    (filed-stored p.shelf r.slot (record_filing r) s (record-held r t.0))

stored-queue : (s : Shelf) (q : List ℕ) → Stored s → AllOctets q → Stored (queue_filed s q).shelf
unfolding queue_filed
stored-queue s q t a = by-refusal (eqb (queue_refusal q) 0)
  where
    by-refusal : (b : Bool) → Stored (cond b (accepted_queue (records_filed (from_start s) (cut_of record_step q).items)) (refused_queue s (queue_refusal q))).shelf
    by-refusal true = records-stored (cut_of record_step q).items (from_start s) (cut-told q a) t
    by-refusal false = t

-- ---- so octets may be stored or sent between any two calls of a history

stored-history : (h : History) → Given h → Stored (shelf_of h)
unfolding shelf_of Given
stored-history start g = laws.stored-empty
stored-history (put slot card h) g = laws.stored-put (shelf_of h) slot card (stored-history h g.1) g.0
stored-history (file slot x h) g = stored-filed (shelf_of h) slot x.issue x.s1 x.s3 x.s4 x.s5 x.s7 (stored-history h g.2) g.0 g.1
stored-history (queue q h) g = stored-queue (shelf_of h) q (stored-history h g.1) g.0
stored-history (join h k) g = laws.stored-join (shelf_of h) (shelf_of k) (stored-history h g.0) (stored-history k g.1)

pub history-read-back : (h : History) → Given h → shelf_in (as_octets (shelf_of h)) ≡ shelf_of h
history-read-back h g = laws.read_back (shelf_of h) (stored-history h g)

-- ---- which octets a history leaves

-- those in which its shelf is written
pub writes : (h : History) (o : List ℕ) → Given h → o ≡ as_octets (shelf_of h) → Writes h o
writes h o g e = record { leaves = record { given = g; says = ap shelf_in e ∙ history-read-back h g }; written = e }

-- what such octets say of a slot
pub octets-greatest-card : (h : History) (o : List ℕ) → Leaves h o → (slot : ℕ) → slot < 64 → Keeps (accepted_at slot h) (slot_at (shelf_in o) slot)
octets-greatest-card h o l slot below = subst⁻¹ (λ (s : Shelf). Keeps (accepted_at slot h) (slot_at s slot)) l.says (greatest-card h slot below)

-- zeroed memory is the empty shelf
pub zeroed-writes : Writes start (replicate 2624 0)
unfolding shelf_of Given
zeroed-writes = writes start (replicate 2624 0) tt (sym laws.empty-zeros)

-- and so are octets of which none is 1 where a slot starts, whatever the others are
pub none-held-leaves : (o : List ℕ) → ((slot : ℕ) → slot < 64 → octet o (41 * slot + 1) ≢ 1) → Leaves start o
unfolding shelf_of Given
none-held-leaves o d = record { given = tt; says = laws.none-held o d }

-- whatever octets there are say the shelf of a history, in which each held card was put
given-cards : (s : Shelf) → Stored s → (n : ℕ) → n ≤ 64 → Given (cards_put n s)
unfolding Given cards_put
given-cards s t zero h = tt
given-cards s t (suc n) h = by-held (slot_at s n) (t.cards n (omega arith)) (given-cards s t n (omega arith))
  where
    by-held : (x : Slot) → IfSome x Held → Given (cards_put n s) → Given (put_if n x (cards_put n s))
    by-held None c g = g
    by-held (Some card) c g = (c, g)

pub any-octets-leave : (o : List ℕ) → AllOctets o → (h : History) × Leaves h o
any-octets-leave o a = (
  cards_put 64 (shelf_in o),
  record { given = given-cards (shelf_in o) (laws.stored-in o a) 64 (omega arith); says = sym (tidy-is-history (shelf_in o) (laws.tidy-in o)) },
)

-- ---- filing a queue to a shelf that is read from octets, whatever they are

pub octets-queue-is-joining : (o q : List ℕ) → (queue_filed (shelf_in o) q).shelf ≡ join_shelf (shelf_in o) (queue_filed empty_shelf q).shelf
octets-queue-is-joining o q = queue-is-joining q (shelf_in o) (laws.tidy-in o)

pub octets-queue-again : (o q : List ℕ) → (queue_filed (queue_filed (shelf_in o) q).shelf q).shelf ≡ (queue_filed (shelf_in o) q).shelf
octets-queue-again o q = queue-again q (shelf_in o) (laws.tidy-in o)

-- ---- joining octets

pub octets-join-commutes : (a b : List ℕ) → join_octets a b ≡ join_octets b a
octets-join-commutes = laws.join-commutes

pub octets-join-associates : (a b c : List ℕ) → AllOctets a → AllOctets b → AllOctets c → join_octets (join_octets a b) c ≡ join_octets a (join_octets b c)
octets-join-associates = laws.join-associates

pub octets-join-idempotent : (a : List ℕ) → AllOctets a → shelf_in (join_octets a a) ≡ shelf_in a
octets-join-idempotent = laws.join-same
