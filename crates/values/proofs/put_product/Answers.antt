-- `put_product`: the row of the template that octets 8-9 number.
-- Assumes nothing.
use borrow.Author.Tests.{ne_eqb}
use mathlib.Core.Path.{◌≡◌, ap, sym, ◌∙◌}
use mathlib.Core.Bool.{Bool, true, false, cond}
use mathlib.Core.List.{List}
use Prim.Native.Nat.{ℕ}
use lib.Dec.{eqb}
use lib.IntN.{ℤ}
use Rattle.product.specs.Templates.{listed, template_of}
use Rattle.product.specs.Section4.{outcome₄}
use Rattle.std.specs.Prelude.{None}
use Rattle.product.specs.declared.templates.PartKind.TheVariants.{Aerosol}
use Rattle.octets.specs.Octets.{be_at}
use Rattle.values.specs.Letters.{numbers_by}
use Rattle.lent.specs.Lent.{with_count}
use Rattle.values.specs.Records.{PutsRecord}
use Rattle.values.proofs.Templates.{word₄, row₄}
use Rattle.values.proofs.put_product.Goals as goal

-- the last word is 4.46's, and of a number that is not listed nothing is asked
aerosol : (t : Bool) (s : List ℕ) (row row' : List ℤ) → template_of (be_at s 8 2) ≡ cond t (listed Aerosol true) None → row' ≡ with_count (numbers_by (word₄ None) 1 s) row → PutsRecord (outcome₄ s) row row'
aerosol true s row row' by e = row₄ s (listed Aerosol true) row row' by e
aerosol false s row row' by e = row₄ s None row row' by e

-- an arm's row is that of its number's template
arm : (s : List ℕ) (row row' : List ℤ) (key : ℕ) {number : ℕ} → number ≡ be_at s 8 2 → number ≡ key → row' ≡ with_count (numbers_by (word₄ (template_of key)) 1 s) row → PutsRecord (outcome₄ s) row row'
arm s row row' key e k p = row₄ s (template_of key) row row' (ap template_of (sym e ∙ k)) p

pub returns-in_default : goal.returns-in_default
unfolding template_of
returns-in_default c =
    let other = c.in_default.in_default-own.rest in
    let number = sym c.u16_at.ensures in
    let by : template_of c.u16_at.result ≡ cond (eqb c.u16_at.result 46) (listed Aerosol true) None = simp (
      ne_eqb _ _ other.0.0.0.0.0.0.0.1,
      ne_eqb _ _ other.0.0.0.0.0.0.1,
      ne_eqb _ _ other.0.0.0.0.0.1,
      ne_eqb _ _ other.0.0.0.0.1,
      ne_eqb _ _ other.0.0.0.1,
      ne_eqb _ _ other.0.0.1,
      ne_eqb _ _ other.0.1,
      ne_eqb _ _ other.1,
    ) in
    aerosol (eqb c.u16_at.result 46) _ _ _ (ap template_of number ∙ by) c.put-in_default.ensures

pub returns-in-0 : goal.returns-in-0
unfolding template_of
returns-in-0 c = arm _ _ _ 0 c.u16_at.ensures c.in-0.is c.put.ensures

pub returns-in-1 : goal.returns-in-1
unfolding template_of
returns-in-1 c = arm _ _ _ 1 c.u16_at.ensures c.in-1.is c.put-in-1.ensures

pub returns-in-4 : goal.returns-in-4
unfolding template_of
returns-in-4 c = arm _ _ _ 4 c.u16_at.ensures c.in-4.is c.put-in-4.ensures

pub returns-in-5 : goal.returns-in-5
unfolding template_of
returns-in-5 c = arm _ _ _ 5 c.u16_at.ensures c.in-5.is c.put-in-5.ensures

pub returns-in-8 : goal.returns-in-8
unfolding template_of
returns-in-8 c = arm _ _ _ 8 c.u16_at.ensures c.in-8.is c.put-in-8.ensures

pub returns-in-9 : goal.returns-in-9
unfolding template_of
returns-in-9 c = arm _ _ _ 9 c.u16_at.ensures c.in-9.is c.put-in-9.ensures

pub returns-in-11 : goal.returns-in-11
unfolding template_of
returns-in-11 c = arm _ _ _ 11 c.u16_at.ensures c.in-11.is c.put-in-11.ensures

pub returns-in-14 : goal.returns-in-14
unfolding template_of
returns-in-14 c = arm _ _ _ 14 c.u16_at.ensures c.in-14.is c.put-in-14.ensures
