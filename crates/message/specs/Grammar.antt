-- A message as the Manual has it: section 0, section 1, groups of sections, 7777. It knows nothing of a walk.
-- Assumes nothing.
use Rattle.std.specs.Prelude.{ℕ, ◌≤◌, ◌≡◌, List, [], ◌∷◌, ◌++◌, length}
use Rattle.octets.specs.Octets.{be_at}
use Rattle.cutting.specs.Cuts.{strung}
use Rattle.cutting.specs.Sections.{Sized}
use Rattle.field.specs.Accepted.{FollowsField}

-- ---- sections and groups

-- a section of this number: its own octets say its length, in octets 1-4, and its number, in octet 5
pub record Is (n : ℕ) (x : List ℕ) : Type 0 where
  pub sized : Sized x
  pub numbered : be_at x 5 1 ≡ n

-- how a group begins: at 2, at 3, or at 4, with the section 3 of the group before
pub data Opening : Type 0 where
  at_two : List ℕ → List ℕ → Opening
  at_three : List ℕ → Opening
  at_four : Opening

-- the sections of a field that stand in its own group, and section 6
pub record Group : Type 0 where
  pub opening : Opening
  pub four : List ℕ
  pub five : List ℕ
  pub six : List ℕ
  pub seven : List ℕ

abbrev pub opened : Opening → List (List ℕ)
opened (at_two two three) = two ∷ three ∷ []
opened (at_three three) = three ∷ []
opened at_four = []

-- in order
abbrev pub sections_of : Group → List (List ℕ)
sections_of g = opened g.opening ++ (g.four ∷ g.five ∷ g.six ∷ g.seven ∷ [])

unfoldable pub all_sections : List Group → List (List ℕ)
all_sections [] = []
all_sections (g ∷ gs) = sections_of g ++ all_sections gs

abbrev pub Opens : Opening → Type 0
Opens (at_two two three) = Is 2 two × Is 3 three
Opens (at_three three) = Is 3 three
Opens at_four = Unit {0}

-- its sections have their numbers, and there is no bit-map: section 6 is 6 octets with 255
pub record IsGroup (g : Group) : Type 0 where
  pub opens : Opens g.opening
  pub four : Is 4 g.four
  pub five : Is 5 g.five
  pub six : Is 6 g.six
  pub short : length g.six ≡ 6
  pub none : be_at g.six 6 1 ≡ 255
  pub seven : Is 7 g.seven

unfoldable pub AreGroups : List Group → Type 0
AreGroups [] = Unit {0}
AreGroups (g ∷ gs) = IsGroup g × AreGroups gs

-- there is a first group, and it has a section 3
abbrev pub Complete : Opening → Type 0
Complete (at_two two three) = Unit {0}
Complete (at_three three) = Unit {0}
Complete at_four = ⊥

abbrev pub FirstComplete : List Group → Type 0
FirstComplete [] = ⊥
FirstComplete (g ∷ gs) = Complete g.opening

-- ---- the fields

-- the section 3 that a group leaves in force
abbrev pub three_after : List ℕ → Opening → List ℕ
three_after before (at_two two three) = three
three_after before (at_three three) = three
three_after before at_four = before

-- the five sections of a field
pub record Five : Type 0 where
  pub one : List ℕ
  pub three : List ℕ
  pub four : List ℕ
  pub five : List ℕ
  pub seven : List ℕ

-- what stands for a field that is not there
abbrev pub no_five : Five
no_five = record { one = []; three = []; four = []; five = []; seven = [] }

abbrev pub field_with : List ℕ → List ℕ → Group → Five
field_with one three g = record { one = one; three = three; four = g.four; five = g.five; seven = g.seven }

-- the field that each group leaves in force, behind a section 1 and a section 3
unfoldable pub fields_of : List ℕ → List ℕ → List Group → List Five
fields_of one three [] = []
fields_of one three (g ∷ gs) = field_with one (three_after three g.opening) g ∷ fields_of one (three_after three g.opening) gs

abbrev pub Follows : Five → Type 0
Follows f = FollowsField f.one f.three f.four f.five f.seven

unfoldable pub AllFollow : List Five → Type 0
AllFollow [] = Unit {0}
AllFollow (f ∷ fs) = Follows f × AllFollow fs

-- ---- a message

pub record Parts : Type 0 where
  pub zero : List ℕ
  pub one : List ℕ
  pub groups : List Group
  pub end : List ℕ

-- its sections but section 0
abbrev pub behind_zero : Parts → List (List ℕ)
behind_zero p = p.one ∷ all_sections p.groups

-- sections one behind the other
abbrev pub one_behind_the_other : List (List ℕ) → List ℕ
one_behind_the_other xs = strung (λ x. x) xs

-- its fields; the first group has a section 3
abbrev pub fields_in : Parts → List Five
fields_in p = fields_of p.one [] p.groups

-- a message is these parts, strung together; octets 5-7 of section 0 are not looked at
pub record IsFrame (m : List ℕ) (p : Parts) : Type 0 where
  pub strung : m ≡ p.zero ++ (one_behind_the_other (behind_zero p) ++ p.end)
  pub short : length m ≤ 65536
  pub sixteen : length p.zero ≡ 16
  pub start : be_at p.zero 1 4 ≡ 0x47524942
  pub edition : be_at p.zero 8 1 ≡ 2
  pub total : be_at p.zero 9 8 ≡ length m
  pub one : Is 1 p.one
  pub groups : AreGroups p.groups
  pub first : FirstComplete p.groups
  pub most : length p.groups ≤ 16
  pub four : length p.end ≡ 4
  pub sevens : be_at p.end 1 4 ≡ 0x37373737

pub record FollowsMessage (m : List ℕ) : Type 0 where
  pub parts : Parts
  pub frame : IsFrame m parts
  pub fields : AllFollow (fields_in parts)
