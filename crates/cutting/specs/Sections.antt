-- Sections one after the other, as messages and bodies have them: octets 1-4 of a section say how many octets it has.
-- Assumes nothing.
use Rattle.std.specs.Prelude.{ℕ, ◌+◌, ◌-◌, ◌≤◌, ◌≡◌, List, cond, ltb, length, take, drop, Option, Some, None}
use Rattle.octets.specs.Octets.{be_at}
use Rattle.cutting.specs.Cuts.{Step, no_item, item}

-- the octets from index `start` up to index `end`
abbrev pub stretch : List ℕ → ℕ → ℕ → List ℕ
stretch s start end = take (end - start) (drop start s)

-- a section by its own length octets: it has 5 octets or more, and its first four say how many
pub record Sized (x : List ℕ) : Type 0 where
  pub least : 5 ≤ length x
  pub long : be_at x 1 4 ≡ length x

-- the section at the start of these octets by its own length octets, or none: it would have under 5 octets, or more than there are
unfoldable pub section_step : List ℕ → Step (List ℕ)
section_step s =
    cond (ltb (be_at s 1 4) 5) no_item (cond (ltb (length s) (be_at s 1 4)) no_item (item (take (be_at s 1 4) s) (be_at s 1 4)))

-- where a section ends that is found
abbrev pub end_of : ℕ → Step (List ℕ) → Option ℕ
end_of start no_item = None
end_of start (item x size) = Some (start + size)

-- after how many octets the section ends that starts after `start` octets, if one stands there
unfoldable pub end_after : List ℕ → ℕ → Option ℕ
end_after s start = end_of start (section_step (drop start s))
