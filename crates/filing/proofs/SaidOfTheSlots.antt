-- What is answered is said of the filing and of the slots before and after, whatever shelf of 64 slots is lent.
-- Assumes nothing.
use Prim.Native.Nat.{ℕ, ◌<◌}
use mathlib.Core.Path.{◌≡◌, refl, sym, ◌∙◌}
use mathlib.Core.Bool.{Bool, true, false}
use mathlib.Core.List.{List}
use lib.ListN.{length}
use borrow.Author.Tests.{lt-ltb}
use Rattle.std.specs.Prelude.{Option}
use Rattle.card.specs.declared.Card.{Card}
use Rattle.card.proofs.Strict.{less-apart}
use Rattle.shelf.specs.declared.Shelf.{Shelf}
use Rattle.shelf.specs.Shelves.{less_slot, holding, slot_at, put_shelf}
use Rattle.shelf.proofs.Slots.{slot-strict}
use Rattle.shelf.proofs.Laws.{put_other, put-raises, put-stays}
use Rattle.filing.specs.Filing.{Filing, refused_filing, accepted, filing_of, filed_by, kept_if, Said}
use Rattle.filing.proofs.FiledExactlyWhen.{filed-exactly-when}

-- ---- a card is accepted only for a slot that is there: 16

pub slot-there : (slot : ℕ) (issue : Option ℕ) (s1 s3 s4 s5 s7 : List ℕ) (card : Card) → filing_of slot issue s1 s3 s4 s5 s7 ≡ accepted card → slot < 64
slot-there slot issue s1 s3 s4 s5 s7 card e = ((filed-exactly-when slot issue s1 s3 s4 s5 s7).0 (card, e)).there

-- ---- what is answered

put-said : (s : Shelf) (slot : ℕ) (c : Card) → length s.slots ≡ 64 → slot < 64 → (less : Bool) → less_slot (slot_at s slot) (holding c) ≡ less →
    Said s slot (accepted c) (put_shelf s slot c) (kept_if less)
put-said s slot c long h true e =
    let holds = put-raises s slot c long h e in
    record { card = c; accepts = refl; held-less = e; holds = holds; changed = λ same. less-apart slot-strict e (sym same ∙ holds); others = λ k d. put_other s slot k c d }
put-said s slot c long h false e = record { card = c; accepts = refl; holds-no-less = e; same = put-stays s slot c e }

pub said : (s : Shelf) (slot : ℕ) (f : Filing) → length s.slots ≡ 64 → ((card : Card) → f ≡ accepted card → slot < 64) → Said s slot f (filed_by s slot f).shelf (filed_by s slot f).answer
unfolding filed_by
said s slot (refused_filing number section place) long h = record { refuses = refl; same = refl }
said s slot (accepted card) long h = rw (lt-ltb slot 64 (h card refl)) (put-said s slot card long (h card refl) (less_slot (slot_at s slot) (holding card)) refl)
