use borrow.Author.Tests.{ne_eqb}
use Rattle.skogmund.specs.Parts.{part_span}
use Rattle.skogmund.proofs.part.span_of.Goals as goal

pub returns-in_default : goal.returns-in_default
unfolding part_span
returns-in_default c =
    let other = c.in_default.in_default-own.rest in
    simp (ne_eqb _ _ other.0.0.0.1, ne_eqb _ _ other.0.0.1, ne_eqb _ _ other.0.1, ne_eqb _ _ other.1)

pub returns-in-1 : goal.returns-in-1
unfolding part_span
returns-in-1 c = rw c.in-1.is c.list_span.ensures

pub returns-in-2 : goal.returns-in-2
unfolding part_span
returns-in-2 c = rw c.in-2.is c.range_span.ensures

pub returns-in-3 : goal.returns-in-3
unfolding part_span
returns-in-3 c = rw c.in-3.is c.member_span.ensures

pub returns-in-4 : goal.returns-in-4
unfolding part_span
returns-in-4 c = rw c.in-4.is c.coordinate_span.ensures
