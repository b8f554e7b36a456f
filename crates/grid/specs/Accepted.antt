-- What it means that a section 3 follows its template and keeps the value rules, in plain words.
-- Assumes nothing.
use Rattle.std.specs.Prelude.{ℕ, ◌+◌, ◌*◌, ◌%◌, ◌≤◌, ◌≡◌, List, [], ◌∷◌, ◌++◌, ◌⊎◌, length}
use Rattle.octets.specs.Octets.{be_at}
use Rattle.layout.specs.Fields.{Run, run}
use Rattle.grid.specs.Templates.{base_end}
use Rattle.grid.specs.Points.{sum_of}
use Rattle.grid.specs.declared.templates.Template.{Template}
use Rattle.grid.specs.declared.templates.Template.TheVariants.{LatLon, Rotated, Stretched, StretchedAndRotated}

-- the octets of each field by their numbers, in every section 3: length, section number; source; points; width and interpretation of the
-- list; template; shape of the earth, and of its radius, major and minor axis: scale factor, value; Ni, Nj; basic angle, subdivisions; La1, Lo1;
-- component flags; La2, Lo2; Di, Dj; scanning mode
abbrev pub octets_to72 : List Run
octets_to72 =
    run 1 4
    ∷ run 5 1
    ∷ run 6 1
    ∷ run 7 4
    ∷ run 11 1
    ∷ run 12 1
    ∷ run 13 2
    ∷ run 15 1
    ∷ run 16 1
    ∷ run 17 4
    ∷ run 21 1
    ∷ run 22 4
    ∷ run 26 1
    ∷ run 27 4
    ∷ run 31 4
    ∷ run 35 4
    ∷ run 39 4
    ∷ run 43 4
    ∷ run 47 4
    ∷ run 51 4
    ∷ run 55 1
    ∷ run 56 4
    ∷ run 60 4
    ∷ run 64 4
    ∷ run 68 4
    ∷ run 72 1
    ∷ []

-- behind them the poles that the template has, 73-76, 77-80, 81-84 and 85-88, 89-92, 93-96, and then a list of so many octets
abbrev pub octets_from73 : Template → ℕ → List Run
octets_from73 LatLon list = run 73 list ∷ []
octets_from73 Rotated list = run 73 4 ∷ run 77 4 ∷ run 81 4 ∷ run 85 list ∷ []
octets_from73 Stretched list = run 73 4 ∷ run 77 4 ∷ run 81 4 ∷ run 85 list ∷ []
octets_from73 StretchedAndRotated list =
    run 73 4 ∷ run 77 4 ∷ run 81 4 ∷ run 85 4 ∷ run 89 4 ∷ run 93 4 ∷ run 97 list ∷ []

abbrev pub octets₃ : Template → ℕ → List Run
octets₃ template list = octets_to72 ++ octets_from73 template list

-- the number of a template, in octets 13-14
abbrev pub number_of : Template → ℕ
number_of LatLon = 0
number_of Rotated = 1
number_of Stretched = 2
number_of StretchedAndRotated = 3

-- the four octets from octet `at` on are all ones, or not
abbrev pub Missing : ℕ → List ℕ → Type 0
Missing at s = be_at s at 4 ≡ 0xffff_ffff

abbrev pub Present : ℕ → List ℕ → Type 0
Present at s = be_at s at 4 ≡ 0xffff_ffff → ⊥

abbrev pub NotZero : ℕ → List ℕ → Type 0
NotZero at s = be_at s at 4 ≡ 0 → ⊥

-- latitude and longitude of each pole that the template has
abbrev pub PolesPresent : Template → List ℕ → Type 0
PolesPresent LatLon s = Unit {0}
PolesPresent Rotated s = Present 73 s × Present 77 s
PolesPresent Stretched s = Present 73 s × Present 77 s
PolesPresent StretchedAndRotated s = Present 73 s × Present 77 s × Present 85 s × Present 89 s

-- width 0: Ni and Nj both present, octet 12 is 0, no list; bit 8 of the scanning mode in octet 72, the lowest, is set, or the points are Ni x Nj
pub record NoList (template : Template) (s : List ℕ) : Type 0 where
  pub width : be_at s 11 1 ≡ 0
  pub interpretation : be_at s 12 1 ≡ 0
  pub ni : Present 31 s
  pub nj : Present 35 s
  pub whole : length s ≡ base_end template
  pub points : (be_at s 72 1 % 2 ≡ 1) ⊎ (be_at s 7 4 ≡ be_at s 31 4 * be_at s 35 4)

-- width 1, 2 or 4: of Ni and Nj one is missing, its increment too, and the other is how many numbers follow the base;
-- octet 12 is 1 or 2, and the points are the sum of the list. `absent`, `increment` and `counted` are the first octets of these three
pub record AList (absent increment counted : ℕ) (template : Template) (s : List ℕ) : Type 0 where
  pub width : (be_at s 11 1 ≡ 1) ⊎ ((be_at s 11 1 ≡ 2) ⊎ (be_at s 11 1 ≡ 4))
  pub interpretation : (1 ≤ be_at s 12 1) × (be_at s 12 1 ≤ 2)
  pub missing : Missing absent s
  pub increment-missing : Missing increment s
  pub count : Present counted s
  pub whole : length s ≡ base_end template + be_at s 11 1 * be_at s counted 4
  pub points : be_at s 7 4 ≡ sum_of (base_end template) (be_at s 11 1) s (be_at s counted 4)

pub record Follows₃ (template : Template) (s : List ℕ) : Type 0 where
  pub small : length s ≤ 65536
  pub says-length : be_at s 1 4 ≡ length s
  pub says-number : be_at s 5 1 ≡ 3
  pub source : be_at s 6 1 ≡ 0
  pub names : be_at s 13 2 ≡ number_of template
  pub ni : NotZero 31 s
  pub nj : NotZero 35 s
  pub subdivisions : NotZero 43 s
  pub la1 : Present 47 s
  pub lo1 : Present 51 s
  pub la2 : Present 56 s
  pub lo2 : Present 60 s
  pub poles : PolesPresent template s
  -- Ni is missing with Di (64-67) and Nj counts the list, or Nj is missing with Dj (68-71) and Ni counts it
  pub list : NoList template s ⊎ (AList 31 64 35 template s ⊎ AList 35 68 31 template s)
