-- `put_fields`: what the letters ahead still write, written into the row as it is now, makes the row of all of them.
-- Assumes nothing.
use Prim.Native.Nat.{ℕ, suc, ◌+◌, ◌<◌}
use native.Mathlib.Omega.{arith}
use native.Mathlib.Numerals.{add-one}
use mathlib.Core.Path.{◌≡◌, refl, sym, ap, ◌∙◌}
use mathlib.Core.List.{List}
use lib.IntN.{ℤ}
use lib.ListN.{length, get_or, set, drop, length-set, drop_of_length-le}
use lib.Seq.{sets, drop-cons}
use mir.Syntax.{w64}
use mir.ValLaws.{to_z-of_z}
use Rattle.values.specs.Letters.{kind_of, number_by, numbers_by}
use Rattle.values.proofs.Words.{octets-small}
use Rattle.values.proofs.put_fields.Goals as goal

-- the next letter writes its number, and the others follow
next : (s letters : List ℕ) (row : List ℤ) (at i : ℕ) → i < length letters
    → sets row (i + 1) (numbers_by (drop i letters) at s) ≡ sets (set row (i + 1) (number_by (kind_of (get_or letters i 0)) at s)) (i + 1 + 1) (numbers_by (drop (i + 1) letters) (at + (kind_of (get_or letters i 0)).octets) s)
unfolding numbers_by
next s letters row at i h =
    rw (add-one (i + 1), add-one i) (ap (λ (ls : List ℕ). sets row (suc i) (numbers_by ls at s)) (drop-cons letters i 0 h))

pub loop-i-init : goal.loop-i-init
loop-i-init c = record { within = omega arith; long = refl; near = omega arith; ahead = refl }

pub offset_bounds-values-i : goal.offset_bounds-values-i
offset_bounds-values-i c = omega (arith, c.requires)

pub bounds-values-i : goal.bounds-values-i
bounds-values-i c = omega (arith, c.requires)

pub overflow_add-at : goal.overflow_add-at
overflow_add-at c =
    let letter = get_or c.args.letters.now c.loop-i.i 0 in
    omega (arith, c.requires, c.field_at-found.ensures.octets, octets-small letter)

pub overflow_add-i : goal.overflow_add-i
overflow_add-i c = omega (arith, c.requires)

pub loop-i-preserved : goal.loop-i-preserved
loop-i-preserved c =
    let a = c.args in
    let l = c.loop-i in
    let g = l.invariant in
    let found = c.field_at-found.ensures in
    let letter = get_or a.letters.now l.i 0 in
    record {
      within = omega arith;
      long = length-set l.values _ _ ∙ g.long;
      near = omega (arith, found.octets, octets-small letter);
      ahead = rw (to_z-of_z w64 _ (record { sfits = c.struct_told-1.given.0.1 }), found.number, found.octets) (sym (next a.s.now a.letters.now l.values l.at l.i (omega arith)) ∙ g.ahead);
    }

pub shape_of-values : goal.shape_of-values
shape_of-values c = c.loop-i.invariant.long

pub returns : goal.returns
unfolding numbers_by
returns c =
    let a = c.args in
    let l = c.loop-i in
    ap (λ (ls : List ℕ). sets l.values (l.i + 1) (numbers_by ls l.at a.s.now)) (sym (drop_of_length-le a.letters.now {i = l.i} (omega arith))) ∙ l.invariant.ahead
