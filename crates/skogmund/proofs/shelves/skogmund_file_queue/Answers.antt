-- `skogmund_file_queue`: as `queue::file` answers, and then what is kept.
-- Assumes nothing.
use Prim.Native.Nat.{ℕ, ◌≤◌}
use mathlib.Core.List.{List, [], ◌∷◌}
use mathlib.Core.Path.{◌≡◌, sym, ap, ◌∙◌}
use Rattle.std.specs.Prelude.{Result, Ok, Err}
use Rattle.layout.specs.declared.Refusal.{Refusal}
use Rattle.shelf.specs.declared.Shelf.{Shelf}
use Rattle.shelf_octets.specs.ShelfOctets.{shelf_in}
use Rattle.queue.specs.declared.Counts.{Counts}
use Rattle.queue.specs.declared.QueueFiled.{QueueFiled}
use Rattle.queue.specs.Queues.{queue_filed}
use Rattle.queue.proofs.RefusalNumbers.{queue-refuses}
use Rattle.lent.specs.Lent.{done_both}
use Rattle.skogmund.specs.Entries.{code_of}
use Rattle.skogmund.specs.Shelves.{kept_in, queue_kept, filed_queue}
use Rattle.skogmund.proofs.shelves.skogmund_file_queue.Goals as goal

-- what is filed is filed to the shelf that the octets are
module _ {done : QueueFiled} {shelf : Shelf} (held q counts : List ℕ) (e : done ≡ queue_filed shelf q) (s : shelf ≡ shelf_in held) where
  filed-is : done ≡ queue_filed (shelf_in held) q
  filed-is = e ∙ ap (λ (s : Shelf). queue_filed s q) s

  -- as it is answered
  queue-is : (answer : Result Counts Refusal) → done.answer ≡ answer → queue_kept held counts done.shelf answer ≡ filed_queue held q counts
  unfolding filed_queue
  queue-is answer r = sym (ap (queue_kept held counts done.shelf) r) ∙ ap (λ (x : QueueFiled). queue_kept held counts x.shelf x.answer) filed-is

  counts-are : (n : Counts) → done.answer ≡ Ok n → kept_in held counts done.shelf (n.kept ∷ n.passed ∷ n.refused ∷ []) ≡ filed_queue held q counts
  unfolding queue_kept
  counts-are n r = queue-is (Ok n) r

  refused-is : (x : Refusal) → done.answer ≡ Err x → done_both (code_of x) held counts ≡ filed_queue held q counts
  unfolding queue_kept
  refused-is x r = queue-is (Err x) r

  placed : (x : Refusal) → done.answer ≡ Err x → x.place ≤ 65537
  placed x r = (queue-refuses _ _ _ (sym (ap (λ (y : QueueFiled). y.answer) filed-is) ∙ r)).placed.within

pub code-requires : goal.code-requires
code-requires c = placed c.args.shelf.now c.args.queue.now c.args.counts.now c.file-done.ensures c.read.ensures _ c.in-Err.is

pub returns-in-Ok : goal.returns-in-Ok
returns-in-Ok c = c.keep.ensures ∙ counts-are c.args.shelf.now c.args.queue.now c.args.counts.now c.file-done.ensures c.read.ensures _ c.in-Ok.is

pub returns-in-Err : goal.returns-in-Err
returns-in-Err c =
    ap (λ (n : ℕ). done_both n c.args.shelf.now c.args.counts.now) c.code.ensures
    ∙ refused-is c.args.shelf.now c.args.queue.now c.args.counts.now c.file-done.ensures c.read.ensures _ c.in-Err.is
