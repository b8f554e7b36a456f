-- What is read out of sections 5 and 7 is by name and octet what document 01 has: it follows from the values of the fields in their order.
-- Assumes nothing.
use Prim.Native.Nat.{ℕ}
use mathlib.Core.Path.{◌≡◌, refl, ap, sym, subst, ◌∙◌}
use mathlib.Core.List.{List}
use lib.ListN.{get_or}
use Rattle.layout.specs.Fields.{Value, none, natural_in, after, placed, values_of}
use Rattle.packing.specs.Section5.{fields₅, values_in₅}
use Rattle.packing.specs.Section7.{fields₇alone, fields₇, values_in₇}
use Rattle.packing.specs.Means.{Means₅, Means₇}
use Rattle.packing.specs.declared.Packing.{Packing}
use Rattle.packing.specs.declared.DataSection.{DataSection}
use Rattle.packing.proofs.AnswersDetermined.{to_packing, packing-back}

pub means₅ : (s : List ℕ) (x : Packing) → values_in₅ x ≡ values_of (after 0 fields₅) s → Means₅ x s
unfolding to_packing values_of placed fields₅
means₅ s x e = subst (λ (y : Packing). Means₅ y s) (ap to_packing (sym e) ∙ packing-back x)
    (record { says-length = refl; says-number = refl; values = refl; template = refl; reference = refl; binary-scale = refl; decimal-scale = refl; bits = refl; value-type = refl })

pub means₇ : (n bits : ℕ) (s : List ℕ) (x : DataSection) → values_in₇ x ≡ values_of (after 0 (fields₇ n bits)) s → Means₇ x s
unfolding values_in₇ values_of placed fields₇alone
means₇ n bits s x e = record { says-length = ap (λ (vs : List Value). natural_in (get_or vs 0 none)) e; says-number = ap (λ (vs : List Value). natural_in (get_or vs 1 none)) e }
