-- What is said of each public entry: it takes every input, it ends, and so much its contract says (`Entry`, of the crate `entry`).
-- Assumes nothing.
use mathlib.Core.Path.{◌≡◌}
use Rattle.grid.specs.Views.{list_span, list₃}
use Rattle.layout.specs.Outcomes.{told}
use Rattle.grid.specs.Blocks.{values_in}
use Rattle.grid.specs.Templates.{listed_template}
use Rattle.grid.specs.Section3.{outcome₃}
use Rattle.entry.specs.Entry.{Entry}
use Rattle.grid.proofs as code

pub read : Entry code.read.Reads.Asked code.read.Reads.Learnt code.read.Statement.statement (λ given r later. told values_in r ≡ outcome₃ given.0.now)
read = record { takes = λ lent given. tt; ends = code.read.Met.met; tells = λ lent given r later e. e }

pub template-by-number : Entry code.templates.TemplateTryFromU16.try_from.Reads.Asked code.templates.TemplateTryFromU16.try_from.Reads.Learnt code.templates.TemplateTryFromU16.try_from.Statement.statement (λ given r later. r ≡ listed_template given.0)
template-by-number = record { takes = λ lent given. tt; ends = code.templates.TemplateTryFromU16.try_from.Met.met; tells = λ lent given r later e. e }

pub list-span : Entry code.views.list_span.Reads.Asked code.views.list_span.Reads.Learnt code.views.list_span.Statement.statement (λ given r later. r ≡ list_span given.0.now)
list-span = record { takes = λ lent given. tt; ends = code.views.list_span.Met.met; tells = λ lent given r later e. e }

pub list : Entry code.views.list.Reads.Asked code.views.list.Reads.Learnt code.views.list.Statement.statement (λ given r later. r.now ≡ list₃ given.0.now)
list = record { takes = λ lent given. tt; ends = code.views.list.Met.met; tells = λ lent given r later e. e }
