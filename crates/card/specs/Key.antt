-- The order of cards: real year, month, day, hour, minute, second, issue, all as numbers, then the 27 octets from the left.
-- Assumes nothing.
use Rattle.std.specs.Prelude.{◌≡◌, Bool, List, [], ◌∷◌, ◌++◌, map, ℤ, pos}
use Rattle.std.specs.Int.Signed.{lt_z}
use Rattle.card.specs.Order.{lex}
use Rattle.card.specs.declared.Card.{Card}

-- the real reference time, the weightiest number first
abbrev pub time_of : Card → List ℤ
time_of c = c.year ∷ pos c.month ∷ pos c.day ∷ pos c.hour ∷ pos c.minute ∷ pos c.second ∷ []

-- two cards have one real reference time
pub record SameTime (a b : Card) : Type 0 where
  pub year : a.year ≡ b.year
  pub month : a.month ≡ b.month
  pub day : a.day ≡ b.day
  pub hour : a.hour ≡ b.hour
  pub minute : a.minute ≡ b.minute
  pub second : a.second ≡ b.second

-- what cards are compared by: the time, then the issue, then the 27 octets
unfoldable pub key_of : Card → List ℤ
key_of c = time_of c ++ (pos c.issue ∷ map pos c.product)

-- whether the first card is less than the second
unfoldable pub less_card : Card → Card → Bool
less_card a b = lex lt_z (key_of a) (key_of b)
