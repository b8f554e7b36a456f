-- Document 01's starred examples of queues hold of the definitions.
-- Assumes nothing.
use mathlib.Core.Path.{refl}
use Rattle.layout.specs.Examples.{AllAgree}
use Rattle.cutting.specs.Numbers.{groups, leading_number, spelled}
use Rattle.cutting.specs.Cuts.{cut_in, cut_of, strung}
use Rattle.queue.specs.Records.{record_of}
use Rattle.queue.specs.Queues.{record_step, queue_refusal}
use Rattle.queue.specs.Spelled.{spelled_record}
use Rattle.queue.specs.Examples.{starred_queues}

pub queues-agree : AllAgree starred_queues
unfolding AllAgree groups leading_number spelled record_of record_step cut_in cut_of queue_refusal strung spelled_record
queues-agree = (refl, (refl, (refl, (refl, tt))))
