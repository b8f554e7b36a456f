-- Document 01's starred example of a queue: 300 in groups of seven is AC 02, so that AC 02 00 00 is one record of slot 300, without an issue and
-- without a body; beside it, that 80 00 is 19: no number, also where what would be an issue and a body length follow.
-- Assumes nothing.
use Rattle.std.specs.Prelude.{ℕ, List, [], ◌∷◌, map, ℤ, pos, None}
use Rattle.layout.specs.Examples.{Example}
use Rattle.cutting.specs.Cuts.{cut_of}
use Rattle.queue.specs.Queues.{Sent, record_step, queue_refusal}
use Rattle.queue.specs.Spelled.{spelled_all}

-- the number with which a queue is refused, or 0, and the slots of its records
abbrev pub slots_told : List ℕ → List ℤ
slots_told q = pos (queue_refusal q) ∷ map (λ (r : Sent). pos r.slot) (cut_of record_step q).items

abbrev pub starred_queues : List Example
starred_queues =
    record { made = slots_told (0xac ∷ 0x02 ∷ 0x00 ∷ 0x00 ∷ []); stated = pos 0 ∷ pos 300 ∷ [] }
    ∷ record { made = map pos (spelled_all (record { slot = 300; issue = None; body = [] } ∷ [])); stated = pos 0xac ∷ pos 0x02 ∷ pos 0x00 ∷ pos 0x00 ∷ [] }
    ∷ record { made = slots_told (0x80 ∷ 0x00 ∷ []); stated = pos 19 ∷ [] }
    ∷ record { made = slots_told (0x80 ∷ 0x00 ∷ 0x00 ∷ 0x00 ∷ []); stated = pos 19 ∷ [] }
    ∷ []
