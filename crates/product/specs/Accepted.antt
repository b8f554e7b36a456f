-- What it means that a section 4 follows its template and keeps the value rules, in plain words.
-- Assumes nothing.
use Rattle.std.specs.Prelude.{ℕ, ◌+◌, ◌-◌, ◌*◌, ◌≤◌, ◌≡◌, length}
use mathlib.Core.List.{List, Memᴰ}
use Rattle.octets.specs.Octets.{be_at}
use Rattle.product.specs.Table.{CountAt, no_count, at_octet, TemplateRow, templates₄, count_in}

-- if n stands at octet p, the end of the interval is p-7 to p-1; n is not 0
pub record EndKept (p : ℕ) (s : List ℕ) : Type 0 where
  pub year : be_at s (p - 7) 2 ≡ 0xffff → ⊥
  pub month : (1 ≤ be_at s (p - 5) 1) × (be_at s (p - 5) 1 ≤ 12)
  pub day : (1 ≤ be_at s (p - 4) 1) × (be_at s (p - 4) 1 ≤ 31)
  pub hour : be_at s (p - 3) 1 ≤ 23
  pub minute : be_at s (p - 2) 1 ≤ 59
  pub second : be_at s (p - 1) 1 ≤ 59
  pub ranges : be_at s p 1 ≡ 0 → ⊥

-- where the template has time ranges
abbrev pub IntervalKept : CountAt → List ℕ → Type 0
IntervalKept no_count s = Unit {0}
IntervalKept (at_octet p) s = EndKept p s

-- the template is one of document 01's table
pub record Follows₄ (row : TemplateRow) (s : List ℕ) : Type 0 where
  pub listed : Memᴰ row templates₄
  pub small : length s ≤ 65536
  pub whole : length s ≡ row.octets + 12 * count_in row.ranges s + count_in row.members s + 4 * be_at s 6 2
  pub says-length : be_at s 1 4 ≡ length s
  pub says-number : be_at s 5 1 ≡ 4
  pub names : be_at s 8 2 ≡ row.number
  pub forecast-time : be_at s (19 + row.moved) 4 ≡ 0xffffffff → ⊥
  pub interval : IntervalKept row.ranges s
