-- A shelf's octets: how many there are, that those of the empty shelf are all zero, and that a shelf is read back from its octets.
-- Assumes nothing.
use mathlib.Core.Path.{◌≡◌, refl, sym, ap, ap₂, subst⁻¹, ◌∙◌}
use mathlib.Core.Bool.{Bool, true, false, cond}
use Rattle.std.proofs.Common.{Some, None, IfSome}
use mathlib.Core.List.{List, [], ◌∷◌, ◌++◌}
use mathlib.Core.Logic.{◌≢◌}
use Prim.Native.Nat.{ℕ, zero, suc, ◌+◌, ◌*◌, ◌/◌, ◌%◌, ◌^◌, ◌≤◌, ◌<◌}
use Rattle.std.specs.Int.{to_be_bytes, w32}
use native.Mathlib.Decide.{ℕ_discrete}
use native.Mathlib.Omega.{arith}
use native.Mathlib.Nat.{add-zero, not-suc-le-zero, le_of_suc-le-suc}
use native.Mathlib.Numerals.{add-one}
use lib.Dec.{eqb}
use lib.ListN.{length, take, drop, replicate, get_or, get_or-eq_default, length-append, length-replicate, get_or-replicate, replicate-append-replicate}
use lib.Seq.{take_at, drop_at, take_all, drop-cons, drop-drop, get_or-take, get_or-drop, ext_get_or}
use borrow.Author.Tests.{ne_eqb}
use Rattle.octets.specs.Octets.{octet, be_at, part, be, digits, AllOctets}
use Rattle.octets.proofs.Laws.{part_length, part-all, part-behind, be_at-one, be_at-below, take-octets, drop-octets}
use Rattle.octets.proofs.Digits.{be_at-digits}
use Rattle.lent.specs.Rows.{in_turn}
use Rattle.lent.specs.Written.{written, append}
use Rattle.lent.proofs.Written.{append-whole, starts-over}
use Rattle.lent.proofs.Rows.{over-whole}
use Rattle.card.specs.declared.Card.{Card}
use Rattle.shelf.specs.declared.Shelf.{Shelf}
use Rattle.shelf.specs.Shelves.{Slot, blank, holding, slot_at, empty_shelf, put_shelf, join_shelf}
use Rattle.shelf.specs.History.{Tidy}
use Rattle.shelf.proofs.Slots.{one_of}
use Rattle.shelf.proofs.Laws.{shelf, shelf-join, tidy-empty, tidy-put, tidy-join, put_same, put_other, join-at}
use Rattle.shelf_octets.specs.ShelfOctets.{year_in, raw_year, card_in, slot_in, slots_in, shelf_in, octets_of_card, octets_of_slot, as_octets, join_octets, Held, Stored}
use Rattle.shelf_octets.proofs.Years.{year-small, raw-natural, year-back}

-- ---- how many they are

pub slot-length : (s : Slot) → length (octets_of_slot s) ≡ 41
unfolding octets_of_slot octets_of_card digits part
slot-length None = refl
slot-length (Some c) = refl

-- so many slots from one on
abbrev octets_from : Shelf → ℕ → ℕ → List ℕ
octets_from s slot more = in_turn (λ (n : ℕ). octets_of_slot (slot_at s n)) slot more

from-length : (s : Shelf) (slot more : ℕ) → length (octets_from s slot more) ≡ 41 * more
unfolding in_turn
from-length s slot zero = refl
from-length s slot (suc more) =
    length-append (octets_of_slot (slot_at s slot)) (octets_from s (suc slot) more)
    ∙ omega (arith, slot-length (slot_at s slot), from-length s (suc slot) more)

pub shelf-length : (s : Shelf) → length (as_octets s) ≡ 2624
shelf-length s = from-length s 0 64

-- written over those of another shelf
pub written_over : (o : List ℕ) (s : Shelf) {out : List ℕ} {end : ℕ} → length o ≡ 2624 → written out end ≡ append (written o 0) (as_octets s) → out ≡ as_octets s
written_over o s long e =
    let same : length (as_octets s) ≡ length o = omega (arith, shelf-length s) in
    starts-over o (as_octets s) (e ∙ append-whole o (as_octets s) (omega arith)) ∙ over-whole (as_octets s) o same

-- ---- the empty shelf

empty-from : (slot more : ℕ) → slot + more ≤ 64 → octets_from empty_shelf slot more ≡ replicate (41 * more) 0
unfolding in_turn octets_of_slot
empty-from slot zero h = refl
empty-from slot (suc more) h =
    let here : slot_at empty_shelf slot ≡ blank = get_or-replicate 64 slot blank blank (omega arith) in
    let all : 41 + 41 * more ≡ 41 * suc more = omega arith in
    ap₂ (λ (s : Slot) (l : List ℕ). octets_of_slot s ++ l) here (empty-from (suc slot) more (omega arith))
    ∙ replicate-append-replicate 41 (41 * more) 0
    ∙ ap (λ (n : ℕ). replicate n 0) all

pub empty-zeros : as_octets empty_shelf ≡ replicate 2624 0
empty-zeros = empty-from 0 64 (omega arith)

-- ---- whatever octets there are read as a shelf

pub slots_length : (more : ℕ) (o : List ℕ) → length (slots_in more o) ≡ more
unfolding slots_in
slots_length zero o = refl
slots_length (suc more) o = ap suc (slots_length more (drop 41 o))

-- a slot's octets stand behind those of the slots before it
pub slot_of : (more n : ℕ) (o : List ℕ) → n < more → get_or (slots_in more o) n blank ≡ slot_in (take 41 (drop (41 * n) o))
unfolding slots_in
slot_of zero n o h = absurd (not-suc-le-zero h)
slot_of (suc more) zero o h = refl
slot_of (suc more) (suc n) o h =
    let further : 41 + 41 * n ≡ 41 * suc n = omega arith in
    slot_of more n (drop 41 o) (le_of_suc-le-suc h)
    ∙ ap (λ (s : List ℕ). slot_in (take 41 s)) (drop-drop (41 * n) 41 o ∙ ap (λ (k : ℕ). drop k o) further)

-- and past the last there is none
pub slot_past : (o : List ℕ) (n : ℕ) → 63 < n → blank ≡ slot_at (shelf_in o) n
slot_past o n h = sym (get_or-eq_default (slots_in 64 o) blank {n = n} (omega (arith, slots_length 64 o)))

pub tidy-in : (o : List ℕ) → Tidy (shelf_in o)
tidy-in o = record { long = slots_length 64 o }

-- what a slot of such a shelf holds
abbrev Stores : Slot → Type 0
Stores s = IfSome s Held

card-held : (o : List ℕ) → AllOctets o → Held (card_in o)
unfolding card_in
card-held o a = record { year = year-small (be_at o 2 4) (be_at-below o 2 4 a); issue = be_at-below o 11 4 a; product = part_length o 15 27 }

held-in : (o : List ℕ) → AllOctets o → IfSome (slot_in o) Held
unfolding slot_in
held-in o a = by_first (eqb (be_at o 1 1) 1)
  where
    by_first : (t : Bool) → IfSome (cond t (holding (card_in o)) blank) Held
    by_first true = card-held o a
    by_first false = tt

pub stored-in : (o : List ℕ) → AllOctets o → Stored (shelf_in o)
stored-in o a =
    record {
      tidy = tidy-in o;
      cards = λ n h. subst⁻¹ Stores (slot_of 64 n o h) (held-in _ (take-octets 41 _ (drop-octets (41 * n) o a)));
    }

-- ---- octets in which no slot is held

-- the first octet of a slot
first-octet : (o : List ℕ) (n : ℕ) → be_at (take 41 (drop (41 * n) o)) 1 1 ≡ octet o (41 * n + 1)
first-octet o n =
    be_at-one (take 41 (drop (41 * n) o)) 1
    ∙ get_or-take 41 (drop (41 * n) o) 0 0 (omega arith)
    ∙ get_or-drop (41 * n) o 0 0
    ∙ rw (add-zero, add-one)

-- they say the empty shelf, whatever else they are
pub none-held : (o : List ℕ) → ((n : ℕ) → n < 64 → octet o (41 * n + 1) ≢ 1) → shelf_in o ≡ empty_shelf
unfolding slot_in
none-held o d =
    ap shelf
    (ext_get_or blank (slots_in 64 o) (replicate 64 blank) (slots_length 64 o ∙ sym (length-replicate 64 blank))
    (λ n l.
    let below : n < 64 = omega (arith, slots_length 64 o) in
    slot_of 64 n o below
    ∙ rw (first-octet o n, ne_eqb (octet o (41 * n + 1)) 1 (d n below)) (sym (get_or-replicate 64 n blank blank below))))

-- ---- the shelves that the functions make of them

pub stored-empty : Stored empty_shelf
stored-empty =
    record {
      tidy = tidy-empty;
      cards = λ n h. subst⁻¹ Stores (get_or-replicate 64 n blank blank h) tt;
    }

pub stored-put : (s : Shelf) (n : ℕ) (c : Card) → Stored s → Held c → Stored (put_shelf s n c)
stored-put s n c t x = record { tidy = tidy-put s n c t.tidy; cards = λ k h. by-slot k h (ℕ_discrete k n) }
  where
    by-slot : (k : ℕ) → k < 64 → Dec (k ≡ n) → Stores (slot_at (put_shelf s n c) k)
    by-slot k h (yes e) =
        subst⁻¹ (λ (m : ℕ). Stores (slot_at (put_shelf s n c) m)) e
        (subst⁻¹ Stores (put_same s n c t.tidy.long (omega arith)) (one_of Stores (slot_at s n) (holding c) (t.cards n (omega arith)) x))
    by-slot k h (no d) = subst⁻¹ Stores (put_other s n k c d) (t.cards k h)

pub stored-join : (a b : Shelf) → Stored a → Stored b → Stored (join_shelf a b)
stored-join a b s t =
    record {
      tidy = tidy-join a b s.tidy t.tidy;
      cards = λ n h. subst⁻¹ Stores (join-at a b n s.tidy.long t.tidy.long h) (one_of Stores (slot_at a n) (slot_at b n) (s.cards n h) (t.cards n h));
    }

-- ---- read back

-- the octets of a slot before its issue
abbrev front : Card → List ℕ
front c = 1 ∷ digits 4 (raw_year c.year) ++ (c.month ∷ c.day ∷ c.hour ∷ c.minute ∷ c.second ∷ [])

card-back : (c : Card) → Held c → card_in (1 ∷ octets_of_card c) ≡ c
unfolding card_in octets_of_card digits
card-back c h =
    let o : List ℕ = 1 ∷ octets_of_card c in
    let year = raw_year c.year in
    let product = part c.product 1 27 in
    let time : List ℕ = c.month ∷ c.day ∷ c.hour ∷ c.minute ∷ c.second ∷ (digits 4 c.issue ++ product) in
    let raw : be_at o 2 4 ≡ year = be_at-digits (1 ∷ []) time 4 year (raw-natural c.year h.year).1 in
    let all : product ≡ c.product = rw h.product at (part-all c.product) in
    let last : part product 1 27 ≡ product = rw (part_length c.product 1 27) at (part-all product) in
    λ i. record {
      year = (ap year_in raw ∙ year-back c.year h.year) i;
      month = be_at-one o 6 i;
      day = be_at-one o 7 i;
      hour = be_at-one o 8 i;
      minute = be_at-one o 9 i;
      second = be_at-one o 10 i;
      issue = be_at-digits (front c) product 4 c.issue h.issue i;
      product = (part-behind (front c ++ digits 4 c.issue) product 1 27 (omega arith) ∙ last ∙ all) i;
    }

slot-back : (s : Slot) → Stores s → slot_in (octets_of_slot s) ≡ s
unfolding slot_in octets_of_slot be_at part be
slot-back None h = refl
slot-back (Some c) h = ap holding (card-back c h)

slots-back : (s : Shelf) → Stored s → (slot more : ℕ) → slot + more ≤ 64 → slots_in more (octets_from s slot more) ≡ take more (drop slot s.slots)
unfolding slots_in in_turn
slots-back s t slot zero h = refl
slots-back s t slot (suc more) h =
    let x = slot_at s slot in
    let rest = octets_from s (suc slot) more in
    let one : slot_in (take 41 (octets_of_slot x ++ rest)) ≡ x =
    ap slot_in (take_at (octets_of_slot x) rest 41 (slot-length x)) ∙ slot-back x (t.cards slot (omega arith)) in
    let others : slots_in more (drop 41 (octets_of_slot x ++ rest)) ≡ take more (drop (suc slot) s.slots) =
    ap (slots_in more) (drop_at (octets_of_slot x) rest 41 (slot-length x))
    ∙ slots-back s t (suc slot) more (omega arith) in
    ap₂ (λ (y : Slot) (l : List Slot). y ∷ l) one others
    ∙ sym (ap (take (suc more)) (drop-cons s.slots slot blank (omega (arith, t.tidy.long))))

-- a shelf is what its octets say
pub read_back : (s : Shelf) → Stored s → shelf_in (as_octets s) ≡ s
read_back s t = ap shelf (slots-back s t 0 64 (omega arith) ∙ take_all 64 s.slots (omega (arith, t.tidy.long)))

-- ---- joining octets

pub join-read : (a b : List ℕ) → AllOctets a → AllOctets b → shelf_in (join_octets a b) ≡ join_shelf (shelf_in a) (shelf_in b)
join-read a b p q = read_back (join_shelf (shelf_in a) (shelf_in b)) (stored-join _ _ (stored-in a p) (stored-in b q))

pub join-commutes : (a b : List ℕ) → join_octets a b ≡ join_octets b a
join-commutes a b = ap as_octets (shelf-join.comm (shelf_in a) (shelf_in b))

pub join-associates : (a b c : List ℕ) → AllOctets a → AllOctets b → AllOctets c → join_octets (join_octets a b) c ≡ join_octets a (join_octets b c)
join-associates a b c p q r =
    ap (λ (s : Shelf). as_octets (join_shelf s (shelf_in c))) (join-read a b p q)
    ∙ ap as_octets (shelf-join.assoc (shelf_in a) (shelf_in b) (shelf_in c))
    ∙ sym (ap (λ (s : Shelf). as_octets (join_shelf (shelf_in a) s)) (join-read b c q r))

-- the octets joined with themselves say the same shelf, and are the ones in which it is written
pub join-idempotent : (a : List ℕ) → join_octets a a ≡ as_octets (shelf_in a)
join-idempotent a = ap as_octets (shelf-join.idem (shelf_in a))

pub join-same : (a : List ℕ) → AllOctets a → shelf_in (join_octets a a) ≡ shelf_in a
join-same a p = join-read a a p p ∙ shelf-join.idem (shelf_in a)

-- ---- a number's octets as std has them

pub octets_of_number : (n : ℕ) → n < 2 ^ 32 → to_be_bytes w32 n ≡ digits 4 n
unfolding digits
octets_of_number n h =
    let a : n / 16777216 % 256 ≡ n / 16777216 = omega arith in
    let b : n / 65536 % 256 ≡ n % 16777216 / 65536 = omega arith in
    let c : n / 256 % 256 ≡ n % 16777216 % 65536 / 256 = omega arith in
    let d : n % 256 ≡ n % 16777216 % 65536 % 256 / 1 = omega arith in
    λ i. a i ∷ b i ∷ c i ∷ d i ∷ []
