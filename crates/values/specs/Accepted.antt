-- What it means that a section, asked for by its number, follows its template and keeps the value rules, and what its fields then say.
-- Assumes nothing.
use Rattle.std.specs.Prelude.{ℕ, ◌≤◌, ◌≡◌, List, ℤ, length}
use Rattle.layout.specs.Fields.{Value, after, values_of}
use Rattle.identification.specs.Section1.{values₁}
use Rattle.identification.specs.Accepted.{Follows₁}
use Rattle.identification.specs.declared.Template.{Template as Template₁}
use Rattle.grid.specs.Templates.{values₃}
use Rattle.grid.specs.Accepted.{Follows₃}
use Rattle.grid.specs.declared.templates.Template.{Template as Template₃}
use Rattle.product.specs.Table.{TemplateRow, is_timed}
use Rattle.product.specs.Templates.{values₄}
use Rattle.product.specs.Accepted.{Follows₄}
use Rattle.packing.specs.Section5.{fields₅}
use Rattle.packing.specs.Section7.{values₇}
use Rattle.packing.specs.Accepted.{Follows₅, Follows₇alone}

-- by the number that is asked for: sections 1, 3 and 4 with the template that they follow, and section 7 alone. No octets follow another number
pub data FollowsNumbered (section : ℕ) (s : List ℕ) : Type 0 where
  section-1 : section ≡ 1 → (template : Template₁) → Follows₁ template s → FollowsNumbered section s
  section-3 : section ≡ 3 → (template : Template₃) → Follows₃ template s → FollowsNumbered section s
  section-4 : section ≡ 4 → (row : TemplateRow) → Follows₄ row s → FollowsNumbered section s
  section-5 : section ≡ 5 → Follows₅ s → FollowsNumbered section s
  section-7 : section ≡ 7 → Follows₇alone s → FollowsNumbered section s

-- the values of the fields of the template that it follows
unfoldable pub values_numbered : (section : ℕ) (s : List ℕ) → FollowsNumbered section s → List Value
values_numbered section s (section-1 e template f) = values₁ template s
values_numbered section s (section-3 e template f) = values₃ template s
values_numbered section s (section-4 e row f) = values₄ row.part (is_timed row) s
values_numbered section s (section-5 e f) = values_of (after 0 fields₅) s
values_numbered section s (section-7 e f) = values₇ s

-- a record is told: the section follows, and there are 64 places
abbrev pub AcceptedWithRoom : ℕ → List ℕ → List ℤ → Type 0
AcceptedWithRoom section s row = FollowsNumbered section s × (64 ≤ length row)
