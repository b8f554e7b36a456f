-- `check`: each section's own reader.
-- Assumes nothing.
use mathlib.Core.Path.{◌≡◌, refl, sym, ap, ◌∙◌}
use mathlib.Core.Bool.{Bool, false, cond}
use mathlib.Core.List.{List}
use Prim.Native.Nat.{ℕ}
use borrow.Author.Tests.{ne_eqb}
use Rattle.std.specs.Prelude.{Err}
use Rattle.layout.specs.Outcomes.{Check, Outcome, refused, check_of, refusal, head_reasons}
use Rattle.layout.proofs.Outcomes.{check-first}
use Rattle.packing.specs.Section7.{outcome₇alone}
use Rattle.values.specs.Records.{section_outcome}
use Rattle.values.proofs.RecordRead.{read_check}
use Rattle.values.proofs.check.Goals as goal

-- an arm's check is for its section
arm : (s : List ℕ) {section key : ℕ} {c : Check} → section ≡ key → c ≡ check_of (section_outcome key s) → c ≡ check_of (section_outcome section s)
arm s e p = p ∙ sym (ap (λ (k : ℕ). check_of (section_outcome k s)) e)

pub returns-in-1 : goal.returns-in-1
unfolding section_outcome
returns-in-1 c = arm _ c.in-1.is (c.and.ensures ∙ read_check _ _ _ c.read.ensures)

pub returns-in-3 : goal.returns-in-3
unfolding section_outcome
returns-in-3 c = arm _ c.in-3.is (c.and-in-3.ensures ∙ read_check _ _ _ c.read-in-3.ensures)

pub returns-in-4 : goal.returns-in-4
unfolding section_outcome
returns-in-4 c = arm _ c.in-4.is (c.and-in-4.ensures ∙ read_check _ _ _ c.read-in-4.ensures)

pub returns-in-5 : goal.returns-in-5
unfolding section_outcome
returns-in-5 c = arm _ c.in-5.is (c.and-in-5.ensures ∙ read_check _ _ _ c.read-in-5.ensures)

pub returns-in-7 : goal.returns-in-7
unfolding section_outcome outcome₇alone
returns-in-7 c = arm _ c.in-7.is (c.check_head.ensures ∙ check-first 7 (head_reasons 7 c.args.s.now) _)

pub returns-in_default : goal.returns-in_default
unfolding section_outcome
returns-in_default c =
    let other = c.in_default.in_default-own.rest in
    simp (c.of.ensures, ne_eqb _ _ other.0.0.0.0.1, ne_eqb _ _ other.0.0.0.1, ne_eqb _ _ other.0.0.1, ne_eqb _ _ other.0.1, ne_eqb _ _ other.1)
