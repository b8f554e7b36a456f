-- A shelf as 2,624 octets, 64 slots of 41, with which a trailer's shelf is stored or sent to another trailer. A slot's octet 1 is 0 if it is
-- empty, and then all of it is; else 1. Octets 2-5 are the real year + 2^31, 6 to 10 month, day, hour, minute, second, 11-14 the issue,
-- 15-41 octets 8-34 of section 4. Whatever octets there are read as a shelf, and an octet that is not there reads as 0.
-- Assumes nothing.
use Rattle.std.specs.Prelude.{ℕ, zero, suc, ◌^◌, ◌<◌, ◌≡◌, cond, List, [], ◌∷◌, ◌++◌, eqb, ℤ, pos, nat_abs, ◌+ℤ◌, ◌-ℤ◌, length, take, drop, replicate, Some, None, IfSome}
use Rattle.std.specs.Int.Signed.{mag}
use Rattle.octets.specs.Octets.{be_at, part, digits}
use Rattle.lent.specs.Rows.{in_turn}
use Rattle.card.specs.declared.Card.{Card}
use Rattle.shelf.specs.declared.Shelf.{Shelf}
use Rattle.shelf.specs.Shelves.{Slot, blank, holding, slot_at, join_shelf}
use Rattle.shelf.specs.History.{Tidy}

-- 2^31 makes every year of 32 bits a number of four octets
abbrev pub year_in : ℕ → ℤ
year_in raw = pos raw -ℤ pos (2 ^ 31)

abbrev pub raw_year : ℤ → ℕ
raw_year year = nat_abs (year +ℤ pos (2 ^ 31))

-- ---- read

unfoldable pub card_in : List ℕ → Card
card_in o =
    record {
      year = year_in (be_at o 2 4);
      month = be_at o 6 1;
      day = be_at o 7 1;
      hour = be_at o 8 1;
      minute = be_at o 9 1;
      second = be_at o 10 1;
      issue = be_at o 11 4;
      product = part o 15 27;
    }

-- octet 1 is 1 where a card is held; any other number is an empty slot, in which nothing else is looked at
unfoldable pub slot_in : List ℕ → Slot
slot_in o = cond (eqb (be_at o 1 1) 1) (holding (card_in o)) blank

-- so many slots, one after the other
unfoldable pub slots_in : ℕ → List ℕ → List Slot
slots_in zero o = []
slots_in (suc more) o = slot_in (take 41 o) ∷ slots_in more (drop 41 o)

abbrev pub shelf_in : List ℕ → Shelf
shelf_in o = record { slots = slots_in 64 o }

-- ---- written

unfoldable pub octets_of_card : Card → List ℕ
octets_of_card c =
    digits 4 (raw_year c.year)
    ++ (c.month ∷ c.day ∷ c.hour ∷ c.minute ∷ c.second ∷ digits 4 c.issue ++ part c.product 1 27)

unfoldable pub octets_of_slot : Slot → List ℕ
octets_of_slot None = replicate 41 0
octets_of_slot (Some c) = 1 ∷ octets_of_card c

-- those of its 64 slots
abbrev pub as_octets : Shelf → List ℕ
as_octets s = in_turn (λ (n : ℕ). octets_of_slot (slot_at s n)) 0 64

-- another shelf's octets joined in
abbrev pub join_octets : List ℕ → List ℕ → List ℕ
join_octets a b = as_octets (join_shelf (shelf_in a) (shelf_in b))

-- ---- which shelves are told by their octets

-- a card as a machine has it: a year and an issue of 32 bits, 27 octets
pub record Held (c : Card) : Type 0 where
  pub year : mag c.year < 2 ^ 31
  pub issue : c.issue < 2 ^ 32
  pub product : length c.product ≡ 27

-- a shelf as its functions make it, of such cards
pub record Stored (s : Shelf) : Type 0 where
  pub tidy : Tidy s
  pub cards : (n : ℕ) → n < 64 → IfSome (slot_at s n) Held
