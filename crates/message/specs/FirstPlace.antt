-- Where the frame of a message is wrong: its start, or else the first place met behind sections that are as they should be.
-- Assumes nothing.
use Rattle.std.specs.Prelude.{ℕ, ◌+◌, ◌≤◌, ◌<◌, ◌≡◌, true, false, cond, ◌⊎◌, List, [], ◌∷◌, ◌++◌, eqb, length}
use Rattle.octets.specs.Octets.{be_at}
use Rattle.layout.specs.Outcomes.{refusal}
use Rattle.cutting.specs.Sections.{Sized}
use Rattle.message.specs.Walk.{Cut}
use Rattle.message.specs.Grammar.{one_behind_the_other}
use Rattle.message.specs.Walk.{number_in, may_follow, other_six, refused_with}

-- ---- as it should be

-- section 0, and enough octets for it and for the last four
pub record Starts (m : List ℕ) : Type 0 where
  pub short : length m ≤ 65536
  pub least : 20 ≤ length m
  pub start : be_at m 1 4 ≡ 0x47524942
  pub edition : be_at m 8 1 ≡ 2
  pub total : be_at m 9 8 ≡ length m

-- a section may stand behind section `last` and behind so many fields
pub record Clear (last count : ℕ) (x : List ℕ) : Type 0 where
  pub follows : may_follow last (number_in x) ≡ true
  pub six : other_six x ≡ false
  pub room : count < 16

-- a section 7 is one field more
abbrev pub fields_after : ℕ → ℕ → ℕ
fields_after n count = cond (eqb n 7) (count + 1) count

-- sections that may stand behind section `last` and so many fields; behind them the last one is section `end`, and there are `fields`
unfoldable pub Passed : ℕ → ℕ → List (List ℕ) → ℕ → ℕ → Type 0
Passed last count [] end fields = (last ≡ end) × (count ≡ fields)
Passed last count (x ∷ xs) end fields = Sized x × Clear last count x × Passed (number_in x) (fields_after (number_in x) count) xs end fields

-- ---- a place

-- behind section 0 and these sections so much is left before the last four octets
pub record Reached (m : List ℕ) (before : List (List ℕ)) (last count : ℕ) (left end : List ℕ) : Type 0 where
  pub zero : List ℕ
  pub strung : m ≡ zero ++ ((one_behind_the_other before ++ left) ++ end)
  pub starts : Starts m
  pub sixteen : length zero ≡ 16
  pub passed : Passed 0 0 before last count
  pub four : length end ≡ 4

-- no section of 5 octets or more stands there before the last four: too few octets, a length under 5, or into the last four
abbrev pub NoSection : List ℕ → Type 0
NoSection left = (length left < 5) ⊎ ((be_at left 1 4 < 5) ⊎ (length left < be_at left 1 4))

-- these octets begin with a section
pub record Begins (left x : List ℕ) : Type 0 where
  pub behind : List ℕ
  pub is : left ≡ x ++ behind
  pub sized : Sized x

-- a message refused with a number of its frame, which has no section and no place
abbrev pub frame_refused : ℕ → Cut
frame_refused number = refused_with (refusal number 0 0)
