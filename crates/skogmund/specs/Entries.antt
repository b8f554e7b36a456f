-- What the entries for C answer: a refusal as one number, and what is then in the lent buffers. Each contract is one equation: `done`, of the
-- answer and of what was lent as it is afterwards, is what a definition makes of what was given.
-- Assumes nothing.
use Rattle.std.specs.Prelude.{ℕ, ◌+◌, ◌*◌, ◌^◌, Bool, ◌&&◌, List, [], ◌∷◌, ltb, leb, ℤ, length, Ok, Err}
use Rattle.lent.specs.Lent.{Done, done, over, if_room}
use Rattle.layout.specs.Outcomes.{Outcome, refused, read, Check}
use Rattle.layout.specs.declared.Refusal.{Refusal}
use Rattle.packing.specs.Unpacking.{unpack_outcome, row_after}
use Rattle.report.specs.Texts.{listing}
use Rattle.values.specs.Records.{section_outcome, into_row}

-- number x 2^40 + section x 2^32 + place
abbrev pub code : ℕ → ℕ → ℕ → ℕ
code number section place = number * 2 ^ 40 + section * 2 ^ 32 + place

abbrev pub code_of : Refusal → ℕ
code_of x = code x.number x.section x.place

-- of an outcome: 0 where nothing is refused
abbrev pub coded : Outcome → ℕ
coded (refused number section place) = code number section place
coded (read vs) = 0

-- the same of a program's check
abbrev pub coded_check : Check → ℕ
coded_check (Err x) = code_of x
coded_check (Ok u) = 0

-- 18: a buffer of another length, or one with too few places
abbrev pub no_room : ℕ
no_room = code 18 0 0

-- ---- sections

unfoldable pub row_unpacked : List ℕ → List ℕ → List ℕ → Done ℕ (List ℕ)
row_unpacked five seven row = done (coded (unpack_outcome five seven row)) (row_after five seven row)

-- a check as one number
abbrev pub in_one_number : {B : Type 0} → Done Check B → Done ℕ B
in_one_number x = done (coded_check x.answer) x.lent

unfoldable pub record_told : ℕ → List ℕ → List ℤ → Done ℕ (List ℤ)
record_told section s row = in_one_number (into_row (section_outcome section s) row)

-- ---- the listing

-- there is room for the text and for its length
abbrev pub fits : List ℕ → List ℕ → List ℕ → Bool
fits q text places = leb (length (listing q)) (length text) && ltb 0 (length places)

unfoldable pub listing_told : List ℕ → List ℕ → List ℕ → Done ℕ (List ℕ × List ℕ)
listing_told q text places = if_room 0 no_room (fits q text places) (over text (listing q), over places (length (listing q) ∷ [])) (text, places)
