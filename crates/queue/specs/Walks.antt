-- A walk over the records of a queue: what it gives, and what is left of it.
-- Assumes nothing.
use Rattle.std.specs.Prelude.{ℕ, ◌≡◌, List, [], drop, Option, Some, None}
use Rattle.cutting.specs.Cuts.{Cut, in_front, at_end, cut_of}
use Rattle.queue.specs.Records.{record_of}
use Rattle.queue.specs.Queues.{Sent, record_in, record_step}
use Rattle.queue.specs.declared.Record.{Record}
use Rattle.queue.specs.declared.Records.{Records}

-- the octets that are left
abbrev pub rest_of : Records → List ℕ
rest_of r = r.rest.now

-- what they are cut into
unfoldable pub cut_left : Records → Cut Sent
cut_left r = cut_of record_step r.rest.now

-- the records that are still to come
abbrev pub records_left : Records → List Sent
records_left r = (cut_left r).items

-- what a record that is given says
abbrev pub sent_in : Record → Sent
sent_in r = record_in r.octets.now r.head

-- the next record is given: it is the one that stands where the walk stood, and the walk stands behind it; or none stands there, none is left
-- now or later, and the walk stays where it stands
abbrev pub GivesRecord : Records → Option Record → Records → Type 0
GivesRecord old None new =
    (cut_left old ≡ record { items = []; whole = at_end new.rest.now })
    × (cut_left new ≡ cut_left old)
    × (record_of (rest_of old) ≡ None)
    × (rest_of new ≡ rest_of old)
GivesRecord old (Some r) new =
    (r.octets.now ≡ rest_of old)
    × (record_of (rest_of old) ≡ Some r.head)
    × (rest_of new ≡ drop r.head.end (rest_of old))
    × (cut_left old ≡ in_front (sent_in r) (cut_left new))
