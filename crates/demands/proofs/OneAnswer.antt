-- Any two answers that a contract allows for the same input are one answer, and so are the later contents of what was lent.
-- Assumes nothing.
use Prim.Native.Nat.{ℕ}
use mathlib.Core.Path.{◌≡◌, sym, ap, ◌∙◌}
use mathlib.Core.List.{List}
use Rattle.layout.specs.Fields.{Value}
use Rattle.layout.specs.Missing.{in32, in_signed}
use Rattle.layout.specs.Time.{time_in}
use Rattle.layout.specs.declared.Time.{Time}
use Rattle.layout.proofs.Untold.{same32, same_signed, same_time}
use Rattle.layout.specs.Outcomes.{told}
use Rattle.identification.specs.Section1.{values_in as values_in₁, outcome₁}
use Rattle.identification.specs.declared.Identification.{Identification}
use Rattle.identification.proofs.AnswersDetermined.{determined as determined₁}
use Rattle.grid.specs.Blocks.{values_in as values_in₃}
use Rattle.grid.specs.Section3.{outcome₃}
use Rattle.grid.specs.declared.blocks.Grid.{Grid}
use Rattle.grid.proofs.AnswersDetermined.{determined as determined₃}
use Rattle.product.specs.Blocks.{values_in as values_in₄}
use Rattle.product.specs.Section4.{outcome₄}
use Rattle.product.specs.declared.blocks.Product.{Product}
use Rattle.product.proofs.AnswersDetermined.{determined as determined₄}
use Rattle.packing.specs.Section5.{values_in₅, outcome₅}
use Rattle.packing.specs.Section7.{values_in₇, outcome₇}
use Rattle.packing.specs.declared.Packing.{Packing}
use Rattle.packing.specs.declared.DataSection.{DataSection}
use Rattle.packing.specs.Unpacking.{Unpacks}
use Rattle.packing.proofs.AnswersDetermined.{determined₅, determined₇, determined as determined-row}
use Rattle.field.specs.Field.{told as told_field, field_outcome}
use Rattle.field.specs.declared.WholeField.{WholeField}
use Rattle.field.proofs.AnswersDetermined.{determined as determined-field}
use Rattle.shelf.specs.declared.Shelf.{Shelf}
use Rattle.std.specs.Prelude.{ℤ, Option, Result}
use Rattle.layout.specs.declared.Refusal.{Refusal}
use Rattle.filing.specs.declared.Change.{Change}
use Rattle.filing.specs.declared.Filed.{Filed}
-- `report`, `contents` and `shelf_octets::write`: the index that is answered and the lent buffer; `values::read_into` and every entry for C: the
-- answer and the lent buffers, one or a pair
pub use Rattle.lent.proofs.Answers.{one_written, one-done}
-- `message::read`, whose theorems stand together
pub use Rattle.demands.proofs.Messages.{one-message}

-- ---- the readers, whose contracts say what an answer tells

pub one-identification : (s : List ℕ) (a b : Result Identification Refusal) → told values_in₁ a ≡ outcome₁ s → told values_in₁ b ≡ outcome₁ s → a ≡ b
one-identification = determined₁

pub one-grid : (s : List ℕ) (a b : Result Grid Refusal) → told values_in₃ a ≡ outcome₃ s → told values_in₃ b ≡ outcome₃ s → a ≡ b
one-grid = determined₃

pub one_product : (s : List ℕ) (a b : Result Product Refusal) → told values_in₄ a ≡ outcome₄ s → told values_in₄ b ≡ outcome₄ s → a ≡ b
one_product = determined₄

pub one-packing : (s : List ℕ) (a b : Result Packing Refusal) → told values_in₅ a ≡ outcome₅ s → told values_in₅ b ≡ outcome₅ s → a ≡ b
one-packing = determined₅

pub one-data : (n bits : ℕ) (s : List ℕ) (a b : Result DataSection Refusal) → told values_in₇ a ≡ outcome₇ n bits s → told values_in₇ b ≡ outcome₇ n bits s → a ≡ b
one-data = determined₇

pub one_field : (s1 s3 s4 s5 s7 : List ℕ) (a b : Result WholeField Refusal) → told_field a ≡ field_outcome s1 s3 s4 s5 s7 → told_field b ≡ field_outcome s1 s3 s4 s5 s7 → a ≡ b
one_field = determined-field

-- the row too
pub one-unpacking : (five seven row : List ℕ) (a b : Result ℕ Refusal) (after later : List ℕ) → Unpacks five seven row a after → Unpacks five seven row b later → (a ≡ b) × (after ≡ later)
one-unpacking = determined-row

-- ---- contracts that are equations: octets, layout's checks, card, shelf, filing by value, queue, the octets of a view; `text`, which answers nothing, and
-- the writers of `lent`: the writer that is left

pub one_answer : {A : Type 0} {x : A} (a b : A) → a ≡ x → b ≡ x → a ≡ b
one_answer a b p q = p ∙ sym q

-- ---- layout's numbers and times, whose contracts say the value

pub one_number : (v : Value) (a b : Option ℕ) → in32 a ≡ v → in32 b ≡ v → a ≡ b
one_number v a b p q = same32 a b (p ∙ sym q)

pub one-signed : (v : Value) (a b : Option ℤ) → in_signed a ≡ v → in_signed b ≡ v → a ≡ b
one-signed v a b p q = same_signed a b (p ∙ sym q)

pub one_time : (vs : List Value) (a b : Time) → time_in a ≡ vs → time_in b ≡ vs → a ≡ b
one_time vs a b p q = same_time a b (p ∙ sym q)

-- ---- what is lent and changed

-- `filing::file`: the answer and the lent shelf
pub one-filing : (x : Filed) (a b : Result Change Refusal) (after later : Shelf) → record { shelf = after; answer = a } ≡ x → record { shelf = later; answer = b } ≡ x → (a ≡ b) × (after ≡ later)
one-filing x a b after later p q = let e = p ∙ sym q in (ap (λ (x : Filed). x.answer) e, ap (λ (x : Filed). x.shelf) e)
