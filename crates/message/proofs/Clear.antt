-- What it says of a section, of the last four octets and of a message's start that they are not refused, and back.
-- Assumes nothing.
use Prim.Native.Nat.{ℕ}
use native.Mathlib.Omega.{arith}
use mathlib.Core.Path.{◌≡◌, ap, ◌∙◌}
use mathlib.Core.Bool.{Bool, true, not}
use mathlib.Core.List.{List, []}
use borrow.Author.Tests.{ltb-false, le-ltb, not-false}
use Rattle.layout.specs.Outcomes.{Reason, read, check_of, first_refusal}
use Rattle.layout.proofs.Outcomes.{NoneHold, passed-none, check-first, none_last}
use Rattle.layout.proofs.Ranges.{test-same, same_test}
use Rattle.message.specs.Walk.{section_reasons, section_refusal, end_reasons, end_refusal}
use Rattle.std.specs.Prelude.{Ok}
use Rattle.message.specs.Messages.{start_reasons, start_refusal}
use Rattle.message.specs.FirstPlace.{Starts, Clear}

-- where no reason holds, nothing refuses
none-refuses : (rs : List Reason) → NoneHold rs → first_refusal 0 rs ≡ Ok tt
none-refuses rs h = check-first 0 rs [] ∙ ap check_of (none_last 0 rs (read []) h)

-- ---- a section

pub clear : (last count : ℕ) (x : List ℕ) → section_refusal last count x ≡ Ok tt → Clear last count x
unfolding section_refusal NoneHold
clear last count x e =
    let h = passed-none 0 (section_reasons last count x) e in
    record { follows = not-false _ h.0; six = h.1.0; room = omega (arith, ltb-false 15 count h.1.1.0) }

pub unrefused : (last count : ℕ) (x : List ℕ) → Clear last count x → section_refusal last count x ≡ Ok tt
unfolding section_refusal NoneHold
unrefused last count x c =
    none-refuses (section_reasons last count x) (ap not c.follows, (c.six, (le-ltb 15 count (omega (arith, c.room)), tt)))

-- ---- the last four octets

pub end-clear : (last : ℕ) (right : Bool) → end_refusal last right ≡ Ok tt → (last ≡ 7) × (right ≡ true)
unfolding end_refusal NoneHold
end-clear last right e =
    let h = passed-none 0 (end_reasons last right) e in
    (test-same _ _ h.0, not-false _ h.1.0)

-- ---- the start

pub starts : (m : List ℕ) → start_refusal m ≡ Ok tt → Starts m
unfolding start_refusal NoneHold
starts m e =
    let h = passed-none 0 (start_reasons m) e in
    record {
      short = ltb-false _ _ h.0;
      least = ltb-false _ _ h.1.0;
      start = test-same _ _ h.1.1.0;
      edition = test-same _ _ h.1.1.1.0;
      total = test-same _ _ h.1.1.1.1.0;
    }

pub started : (m : List ℕ) → Starts m → start_refusal m ≡ Ok tt
unfolding start_refusal NoneHold
started m s =
    none-refuses (start_reasons m)
    (le-ltb _ _ s.short, (le-ltb _ _ s.least, (same_test _ _ s.start, (same_test _ _ s.edition, (same_test _ _ s.total, tt)))))
