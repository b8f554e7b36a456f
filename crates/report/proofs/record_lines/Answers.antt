-- `record_lines`: record by record, what is left to write stands behind what is written.
-- Assumes nothing.
use Prim.Native.Nat.{ℕ, ◌+◌}
use native.Mathlib.Omega.{arith}
use mathlib.Core.Logic.{inl}
use mathlib.Core.Path.{◌≡◌, refl, ap, ap₂, sym, ◌∙◌}
use mathlib.Core.List.{List, ◌∷◌, ◌++◌}
use lib.ListN.{length}
use Rattle.shelf.specs.declared.Shelf.{Shelf}
use Rattle.shelf.specs.Shelves.{empty_shelf}
use Rattle.filing.specs.declared.Filed.{Filed}
use Rattle.cutting.specs.Cuts.{Cut, cut_of}
use Rattle.queue.specs.Queues.{Sent, record_filed, record_step}
use Rattle.queue.specs.Walks.{cut_left}
use Rattle.queue.proofs.Cuts.{records-few}
use Rattle.lent.specs.declared.Writer.{Writer}
use Rattle.lent.specs.Writers.{writes}
use Rattle.lent.proofs.Writers.{writes_on, writes_all}
use Rattle.report.specs.Texts.{record_line, record_lines}
use Rattle.report.proofs.record_lines.Invariants.{Inv}
use Rattle.report.proofs.record_lines.Goals as goal

-- the records that are left
abbrev items_of : Cut Sent → List Sent
items_of c = c.items

-- one less is left, and one line more is written
one_line : (first before after : Writer) (queue : List ℕ) (shelf : Shelf) (i count next : ℕ) (left rest : List Sent) (r : Sent) (filed : Filed) → Inv first queue before shelf count left → left ≡ r ∷ rest
    → i ≡ count → next ≡ count + 1 → filed ≡ record_filed shelf r → after ≡ writes before (record_line (i + 1) r.slot r.issue filed.answer) → Inv first queue after filed.shelf next rest
unfolding record_lines
one_line first before after queue shelf i count next left rest r filed v e here behind f w =
    record {
      few = omega (arith, v.few, ap length e);
      rest =
          writes_on _ _ before (record_line (i + 1) r.slot r.issue filed.answer) _ v.rest
          (ap (record_lines (count + 1) shelf) e
          ∙ sym (ap (λ (y : Filed). record_line (count + 1) r.slot r.issue y.answer ++ record_lines (count + 1 + 1) y.shelf rest) f)
          ∙ sym (ap₂ (λ (n k : ℕ). record_line (n + 1) r.slot r.issue filed.answer ++ record_lines (k + 1) filed.shelf rest) here behind))
          w;
    }

-- no line is written yet
no_line : (x : Writer) (queue : List ℕ) (shelf : Shelf) (count : ℕ) (left : List Sent) → count ≡ 0 → shelf ≡ empty_shelf → left ≡ (cut_of record_step queue).items → Inv x queue x shelf count left
no_line x queue shelf count left none empty all =
    record {
      few = omega (arith, none, ap length all, records-few queue);
      rest = record {
        left = ap (λ (n : ℕ). writes x (record_lines (n + 1) shelf left)) none
            ∙ ap₂ (λ (s : Shelf) (rs : List Sent). writes x (record_lines 1 s rs)) empty all;
      };
    }

pub loop-i-init-derived : goal.loop-i-init-derived
loop-i-init-derived c =
    let left = ap (λ (r : _). r.iter) c.into_iter-i-iterator.ensures.into_iter_gives ∙ c.enumerate-i-items.ensures.source in
    let all = ap items_of (ap cut_left left ∙ c.of.ensures.cut) in
    let none = ap (λ (r : _). r.count) c.into_iter-i-iterator.ensures.into_iter_gives ∙ c.enumerate-i-items.ensures.count in
    ((tt, tt, inl (omega (arith, none, ap length all, records-few c.args.queue.now, c.well_formed))), tt)

pub loop-i-init : goal.loop-i-init
loop-i-init c =
    let left = ap (λ (r : _). r.iter) c.into_iter-i-iterator.ensures.into_iter_gives ∙ c.enumerate-i-items.ensures.source in
    let none = ap (λ (r : _). r.count) c.into_iter-i-iterator.ensures.into_iter_gives ∙ c.enumerate-i-items.ensures.count in
    no_line _ c.args.queue.now _ _ _ none c.empty-shelf.ensures (ap items_of (ap cut_left left ∙ c.of.ensures.cut))

pub loop-i-preserved : goal.loop-i-preserved
loop-i-preserved c =
    let s = c.in-Some.ensures.steps in
    one_line _ _ _ c.args.queue.now c.loop-i.shelf _ c.loop-i.i-iterator.count _ _ _ _ _ c.loop-i.invariant (ap items_of s.0.3) s.1 s.2 c.file_record-filed.ensures c.record_line.ensures

pub returns : goal.returns
unfolding record_lines
returns c =
    writes_all _ _ _ c.loop-i.invariant.rest
    (ap (λ (x : Cut Sent). record_lines (c.loop-i.i-iterator.count + 1) c.loop-i.shelf x.items) c.in-None.ensures.steps.0.0)
