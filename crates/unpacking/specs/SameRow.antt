-- What it means that two engines leave the same row.
-- Assumes nothing.
use Rattle.std.specs.Prelude.{ℕ, ◌≤◌, ◌≡◌, List, length}

-- `tells` and `tells'` are what their contracts say of a call, as the check reads them from the code; the functions pick from what is given the packed
-- octets, the width and the row, and from what was lent, as it is later, the row: lent the same octets, the same width of at most 32 bits and rows of as
-- many places, whatever these hold, they leave the same
abbrev pub SameRow : {A B R L : Type 0} (tells tells' : A → B → R → L → Type 0) (packed : B → List ℕ) (bits : B → ℕ) (row : B → List ℕ) (left : L → List ℕ) → Type 0
SameRow {A} {B} {R} {L} tells tells' packed bits row left =
    (lent lent' : A) (given given' : B) (r r' : R) (later later' : L)
    → tells lent given r later
    → tells' lent' given' r' later'
    → packed given ≡ packed given'
    → bits given ≡ bits given'
    → bits given ≤ 32
    → length (row given) ≡ length (row given')
    → left later ≡ left later'
