-- What is said of each public entry: it takes every input, it ends, and so much its contract says (`Entry`, of the crate `entry`).
-- Assumes nothing.
use mathlib.Core.Path.{◌≡◌}
use Rattle.product.specs.Views.{range_span, member_span, coordinate_span, range_of, members_of, coordinates_of}
use Rattle.layout.specs.Outcomes.{told}
use Rattle.product.specs.Blocks.{values_in}
use Rattle.product.specs.Templates.{template_of, listed_or_6}
use Rattle.product.specs.Section4.{outcome₄}
use Rattle.entry.specs.Entry.{Entry}
use Rattle.product.proofs as code

pub read : Entry code.read.Reads.Asked code.read.Reads.Learnt code.read.Statement.statement (λ given r later. told values_in r ≡ outcome₄ given.0.now)
read = record { takes = λ lent given. tt; ends = code.read.Met.met; tells = λ lent given r later e. e }

pub template-by-number : Entry code.templates.TemplateTryFromU16.try_from.Reads.Asked code.templates.TemplateTryFromU16.try_from.Reads.Learnt code.templates.TemplateTryFromU16.try_from.Statement.statement (λ given r later. r ≡ listed_or_6 (template_of given.0))
template-by-number = record { takes = λ lent given. tt; ends = code.templates.TemplateTryFromU16.try_from.Met.met; tells = λ lent given r later e. e }

pub range-span : Entry code.views.range_span.Reads.Asked code.views.range_span.Reads.Learnt code.views.range_span.Statement.statement (λ given r later. r ≡ range_span given.0.now given.1.0)
range-span = record { takes = λ lent given. tt; ends = code.views.range_span.Met.met; tells = λ lent given r later e. e }

pub member-span : Entry code.views.member_span.Reads.Asked code.views.member_span.Reads.Learnt code.views.member_span.Statement.statement (λ given r later. r ≡ member_span given.0.now)
member-span = record { takes = λ lent given. tt; ends = code.views.member_span.Met.met; tells = λ lent given r later e. e }

pub coordinate-span : Entry code.views.coordinate_span.Reads.Asked code.views.coordinate_span.Reads.Learnt code.views.coordinate_span.Statement.statement (λ given r later. r ≡ coordinate_span given.0.now)
coordinate-span = record { takes = λ lent given. tt; ends = code.views.coordinate_span.Met.met; tells = λ lent given r later e. e }

pub time-range : Entry code.views.time_range.Reads.Asked code.views.time_range.Reads.Learnt code.views.time_range.Statement.statement (λ given r later. r.now ≡ range_of given.0.now given.1.0)
time-range = record { takes = λ lent given. tt; ends = code.views.time_range.Met.met; tells = λ lent given r later e. e }

pub member-list : Entry code.views.member_list.Reads.Asked code.views.member_list.Reads.Learnt code.views.member_list.Statement.statement (λ given r later. r.now ≡ members_of given.0.now)
member-list = record { takes = λ lent given. tt; ends = code.views.member_list.Met.met; tells = λ lent given r later e. e }

pub coordinate-list : Entry code.views.coordinate_list.Reads.Asked code.views.coordinate_list.Reads.Learnt code.views.coordinate_list.Statement.statement (λ given r later. r.now ≡ coordinates_of given.0.now)
coordinate-list = record { takes = λ lent given. tt; ends = code.views.coordinate_list.Met.met; tells = λ lent given r later e. e }
