-- `check_fields`: from field to field, up to the last or to the first that is refused.
-- Assumes nothing.
use Rattle.std.proofs.Common.{◌≡◌, map}
use Rattle.std.specs.Prelude.{Ok}
use Rattle.message.specs.Walk.{told}
use Rattle.message.specs.Messages.{shown_in, fields_read, OpeningRead}
use Rattle.message.proofs.Reading.{shown_from}
use Rattle.message.proofs.check_fields.Given as goal

abbrev pub invariant-loop-sections : goal.invariant-loop-sections
invariant-loop-sections l =
    OpeningRead l.message l.before
    × (fields_read (told (Ok l.fn.fields)) (shown_from l.message l.sections-items l.sections-index) ≡ fields_read (told (Ok l.fn.fields)) (map (shown_in l.message) l.sections-items))
