-- What it means that five sections are a field: each follows its template and keeps the value rules, N is section 3's points, and section 7
-- is as long as section 5 says.
-- Assumes nothing.
use Rattle.std.specs.Prelude.{ℕ, ◌≡◌, List}
use Rattle.octets.specs.Octets.{be_at}
use Rattle.identification.specs.Accepted.{Follows₁}
use Rattle.identification.specs.declared.Template.{Template as Template₁}
use Rattle.grid.specs.Accepted.{Follows₃}
use Rattle.grid.specs.declared.templates.Template.{Template as Template₃}
use Rattle.product.specs.Table.{TemplateRow}
use Rattle.product.specs.Accepted.{Follows₄}
use Rattle.packing.specs.Accepted.{Follows₅, Follows₇}
use Rattle.field.specs.Field.{FieldOutcome, refused_field, read_field}

pub record FollowsField (s1 s3 s4 s5 s7 : List ℕ) : Type 0 where
  pub identified : (template : Template₁) × Follows₁ template s1
  pub gridded : (template : Template₃) × Follows₃ template s3
  pub described : (row : TemplateRow) × Follows₄ row s4
  pub packed : Follows₅ s5
  pub points : be_at s5 6 4 ≡ be_at s3 7 4
  pub filled : Follows₇ (be_at s5 6 4) (be_at s5 20 1) s7

-- the field is read, and not refused
abbrev pub AcceptedField : FieldOutcome → Type 0
AcceptedField (refused_field number section place) = ⊥
AcceptedField (read_field one three four five) = Unit {0}
