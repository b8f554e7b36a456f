-- What a writer has written, call after call.
-- Assumes nothing.
use mathlib.Core.Path.{◌≡◌, refl, ap, ap₂, sym, ◌∙◌}
use mathlib.Core.List.{List, [], ◌∷◌, ◌++◌}
use Prim.Native.Nat.{ℕ, ◌+◌, ◌<◌}
use lib.ListN.{length, get_or, take}
use Rattle.std.proofs.lemmas.List.{take_more}
use Rattle.std.specs.Borrow.{MutBor}
use Rattle.lent.specs.Rows.{in_turn}
use Rattle.lent.specs.Written.{Written, written, append}
use Rattle.lent.specs.Writers.{says, writer, writes}
use Rattle.lent.specs.declared.Writer.{Writer}
use Rattle.lent.proofs.Rows.{in_turn-last}
use Rattle.lent.proofs.Written.{append-both}

-- two texts, one after the other
pub writes_both : (w : Writer) (t u : List ℕ) → writes w (t ++ u) ≡ writes (writes w t) u
writes_both w t u = ap (λ (x : Written). record { room = record w.room { now = x.octets }; at = x.at }) (append-both (says w) t u)

-- what a call wrote, and then what the next one wrote
pub and_then : (w : Writer) {x y : Writer} (t u : List ℕ) → x ≡ writes w t → y ≡ writes x u → y ≡ writes w (t ++ u)
and_then w t u e f = f ∙ ap (λ (v : Writer). writes v u) e ∙ sym (writes_both w t u)

-- one octet, and then what the next call wrote
pub octet_then : (w : Writer) {x y : Writer} (c : ℕ) (u : List ℕ) → x ≡ writes w (c ∷ []) → y ≡ writes x u → y ≡ writes w (c ∷ u)
octet_then w c u e f = and_then w (c ∷ []) u e f

-- the next octet of a text of which i are written
pub next_octet : (w : Writer) {x y : Writer} (t : List ℕ) (i : ℕ) → i < length t → x ≡ writes w (take i t) → y ≡ writes x (get_or t i 0 ∷ []) → y ≡ writes w (take (i + 1) t)
next_octet w t i h e f = rw (take_more t i 0) (and_then w (take i t) (get_or t i 0 ∷ []) e f)

-- nothing
pub no_text : (w : Writer) → w ≡ writes w []
unfolding append
no_text w = refl

-- ---- a loop that writes the pieces of numbers in turn, of which i are written

pub no_turn : (w : Writer) (f : ℕ → List ℕ) → w ≡ writes w (in_turn f 0 0)
unfolding append in_turn
no_turn w f = refl

pub next_turn : (w : Writer) {x y : Writer} (f : ℕ → List ℕ) (i : ℕ) → x ≡ writes w (in_turn f 0 i) → y ≡ writes x (f i) → y ≡ writes w (in_turn f 0 (i + 1))
next_turn w f i e g = rw (in_turn-last f i) (and_then w (in_turn f 0 i) (f i) e g)

-- ---- a loop that writes piece after piece: what is left, written behind what is written so far, makes the whole

pub record Writing (first : Writer) (all : List ℕ) (here : Writer) (rest : List ℕ) : Type 0 where
  pub left : writes here rest ≡ writes first all

module _ (first : Writer) (all : List ℕ) (x : Writer) where
  -- the next piece, and what is left then
  pub writes_on : {y : Writer} {rest : List ℕ} (t later : List ℕ) → Writing first all x rest → rest ≡ t ++ later → y ≡ writes x t → Writing first all y later
  writes_on t later w p e = record { left = ap (λ (v : Writer). writes v later) e ∙ sym (writes_both x t later) ∙ sym (ap (writes x) p) ∙ w.left }

  pub writes_all : {rest : List ℕ} → Writing first all x rest → rest ≡ [] → x ≡ writes first all
  unfolding append
  writes_all w e = sym (ap (writes x) e) ∙ w.left

-- ---- when the writer is gone

-- what then stands in the lent buffer: the writer had that one all along, as it has its name
pub at_last : {room : MutBor (List ℕ)} {out later : List ℕ} {at r : ℕ} {first last : Writer} (t : List ℕ)
    → first ≡ writer room at → room.now ≡ out → r ≡ last.at → (room.ghost_name ≡ last.room.ghost_name → later ≡ last.room.now) → last ≡ writes first t
    → written later r ≡ append (written out at) t
at_last {room} {out} {later} {at} {r} {first} {last} t f o e left g =
    let all : last ≡ writes (writer room at) t = g ∙ ap (λ (w : Writer). writes w t) f in
    ap₂ written (left (sym (ap (λ (w : Writer). w.room.ghost_name) all))) e ∙ ap says all ∙ ap (λ (l : List ℕ). append (written l at) t) o
