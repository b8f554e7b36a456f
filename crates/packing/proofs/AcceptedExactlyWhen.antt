-- Sections 5 and 7 are accepted exactly when they follow their templates and keep the value rules.
-- Assumes nothing.
use Prim.Native.Nat.{ℕ}
use native.Mathlib.Omega.{arith}
use mathlib.Core.Path.{◌≡◌, refl, sym, ◌∙◌}
use mathlib.Core.Logic.{◌↔◌}
use mathlib.Core.List.{List, [], ◌∷◌}
use mathlib.Core.Bool.{not}
use lib.Dec.{eqb}
use Rattle.octets.specs.Octets.{be_at}
use Rattle.layout.specs.Fields.{Value, after, placed, bad_place, values_of, AllAllowed}
use Rattle.layout.specs.Outcomes.{read, reason}
use Rattle.layout.proofs.Blocks.{bad-none, none-bad}
use Rattle.layout.proofs.Outcomes.{Headed, Fits, NoneHold, read_none, none_last, head_read, head-last, opening-read, opening-last, template-read, template-last}
use Rattle.layout.proofs.Ranges.{between_in, in_between, test-same, same_test}
use Rattle.packing.specs.Section5.{fields₅, as_simple, outcome₅}
use Rattle.packing.specs.Section7.{fields₇alone, values₇, outcome₇alone, fields₇, reasons₇, outcome₇}
use Rattle.packing.specs.Accepted.{Follows₅, Follows₇alone, Follows₇}

-- ---- section 5

pub accepted-follows₅ : (s : List ℕ) (vs : List Value) → outcome₅ s ≡ read vs → Follows₅ s × (vs ≡ values_of (after 0 fields₅) s)
unfolding outcome₅ as_simple NoneHold AllAllowed placed fields₅
accepted-follows₅ s vs e =
    let head = opening-read 5 s _ 11 vs e in
    let six = read_none 5 (reason 6 (not (eqb (be_at s 10 2) 0)) ∷ []) _ vs head.2 in
    let simple = template-read 5 s (read (values_of (after 0 fields₅) s)) _ _ _ _ vs six.1 in
    let fine = bad-none 0 1 fields₅ s (omega arith) simple.0.in-range in (
      record {
        whole = simple.0.whole;
        says-length = head.0.says-length ∙ simple.0.whole;
        says-number = head.0.says-number;
        template = test-same _ _ six.0.0;
        bits = (between_in _ _ _ fine.1.1.1.1.1.1.1.0).1;
      },
      cc,
    )

pub follows-accepted₅ : (s : List ℕ) → Follows₅ s → outcome₅ s ≡ read (values_of (after 0 fields₅) s)
unfolding outcome₅ as_simple NoneHold AllAllowed placed fields₅
follows-accepted₅ s f =
    let l = f.whole in
    let headed : Headed 5 s = record { long = omega arith; small = omega arith; says-length = f.says-length ∙ sym l; says-number = f.says-number } in
    let six = none_last 5 (reason 6 (not (eqb (be_at s 10 2) 0)) ∷ []) (as_simple s) (same_test _ _ f.template, tt) in
    let fine : AllAllowed (after 0 fields₅) s =
    (refl, (refl, (refl, (refl, (refl, (refl, (refl, (in_between 0 32 _ (omega arith, f.bits), (refl, tt)))))))))
    in
    let fits : Fits 21 (bad_place (after 0 fields₅) s) 0 21 s = record { enough = omega arith; in-range = none-bad (after 0 fields₅) s fine; own-kept = refl; whole = l } in
    opening-last 5 s _ 11 headed (omega arith) ∙ six ∙ template-last 5 s (read (values_of (after 0 fields₅) s)) _ _ _ _ fits

pub accepted-exactly-when₅ : (s : List ℕ) → ((vs : List Value) × (outcome₅ s ≡ read vs)) ↔ Follows₅ s
accepted-exactly-when₅ s = (
  (λ a. (accepted-follows₅ s a.0 a.1).0),
  (λ f. (values_of (after 0 fields₅) s, follows-accepted₅ s f)),
)

-- ---- section 7 alone: 1 to 4 are all that it can be refused with

alone : (s : List ℕ) → Headed 7 s → Follows₇alone s
alone s h = record { long = h.long; small = h.small; says-length = h.says-length; says-number = h.says-number }

headed : (s : List ℕ) → Follows₇alone s → Headed 7 s
headed s f = record { long = f.long; small = f.small; says-length = f.says-length; says-number = f.says-number }

pub accepted-follows₇alone : (s : List ℕ) (vs : List Value) → outcome₇alone s ≡ read vs → Follows₇alone s × (vs ≡ values₇ s)
unfolding outcome₇alone
accepted-follows₇alone s vs e = let head = head_read 7 s (read (values₇ s)) vs e in (alone s head.0, cc)

pub follows-accepted₇alone : (s : List ℕ) → Follows₇alone s → outcome₇alone s ≡ read (values₇ s)
unfolding outcome₇alone
follows-accepted₇alone s f = head-last 7 s (read (values₇ s)) (headed s f)

pub accepted-exactly-when₇alone : (s : List ℕ) → ((vs : List Value) × (outcome₇alone s ≡ read vs)) ↔ Follows₇alone s
accepted-exactly-when₇alone s = (
  (λ a. (accepted-follows₇alone s a.0 a.1).0),
  (λ f. (values₇ s, follows-accepted₇alone s f)),
)

-- the length and the number are the values of its fields, however many octets follow them
pub fields-say₇ : (rest : ℕ) (s : List ℕ) → values_of (after 0 (fields₇alone rest)) s ≡ values₇ s
unfolding values_of placed fields₇alone
fields-say₇ rest s = refl

-- ---- section 7, for N values of some bits

module _ (n bits : ℕ) (s : List ℕ) where
  pub accepted-follows₇ : (vs : List Value) → outcome₇ n bits s ≡ read vs → Follows₇ n bits s × (vs ≡ values_of (after 0 (fields₇ n bits)) s)
  unfolding outcome₇ NoneHold
  accepted-follows₇ vs e =
      let head = head_read 7 s _ vs e in
      let seven = read_none 7 (reasons₇ n bits s) (read (values_of (after 0 (fields₇ n bits)) s)) vs head.1 in (
        record { alone = alone s head.0; whole = test-same _ _ seven.0.0 },
        cc,
      )

  pub follows-accepted₇ : Follows₇ n bits s → outcome₇ n bits s ≡ read (values_of (after 0 (fields₇ n bits)) s)
  unfolding outcome₇ NoneHold
  follows-accepted₇ f =
      head-last 7 s _ (headed s f.alone)
      ∙ none_last 7 (reasons₇ n bits s) (read (values_of (after 0 (fields₇ n bits)) s)) (same_test _ _ f.whole, tt)

  pub accepted-exactly-when₇ : ((vs : List Value) × (outcome₇ n bits s ≡ read vs)) ↔ Follows₇ n bits s
  accepted-exactly-when₇ = (
    (λ a. (accepted-follows₇ a.0 a.1).0),
    (λ f. (values_of (after 0 (fields₇ n bits)) s, follows-accepted₇ f)),
  )
