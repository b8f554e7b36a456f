-- `write_spans`: the fields that are left, written into the row as it is now, make the row of all.
-- Assumes nothing.
use Prim.Native.Nat.{ℕ, zero, suc, ◌*◌, ◌<◌}
use native.Mathlib.Omega.{arith}
use mathlib.Core.Path.{◌≡◌, refl, ap, ◌∙◌}
use mathlib.Core.List.{List, [], ◌∷◌}
use lib.ListN.{length, get_or, take}
use lib.Seq.{sets, length-take-le}
use borrow.Author.Rules.{rules}
use borrow.Author.Tests.{lt-ltb}
use Rattle.std.specs.Prelude.{Ok}
use Rattle.octets.proofs.Lists.{unmapped}
use Rattle.message.specs.declared.Fields.{Fields}
use Rattle.message.specs.declared.Sections.{Sections}
use Rattle.message.specs.Walk.{told, no_sections}
use Rattle.message.specs.Messages.{field_of}
use Rattle.skogmund.specs.Messages.{spans_of, field_spans}
use Rattle.skogmund.proofs.Spans.{told-one, told-all}
use Rattle.skogmund.proofs.messages.write_spans.Invariants.{spans-in}
use Rattle.skogmund.proofs.messages.write_spans.Goals as goal

-- what stands among the first n
of_first : (n : ℕ) (l : List Sections) (k : ℕ) (d e : Sections) → k < length (take n l) → (k < n) × (get_or (take n l) k d ≡ get_or l k e)
of_first zero l k d e h = absurd (omega arith)
of_first (suc n) [] k d e h = absurd (omega arith)
of_first (suc n) (x ∷ l) zero d e h = (omega arith, refl)
of_first (suc n) (x ∷ l) (suc k) d e h = let r = of_first n l k d e (omega arith) in (omega (arith, r.0), r.1)

-- a field that is there is the k-th
found : (f : Fields) (items : List Sections) (k : ℕ) (d : Sections) → items ≡ take f.count f.fields → k < length items → (k < f.count) × (get_or items k d ≡ field_of (told (Ok f)) k)
found f items k d e h =
    let r = of_first f.count f.fields k d no_sections (omega (arith, h, ap length e)) in
    (r.0, rw (lt-ltb _ _ r.0) (ap (λ (l : List Sections). get_or l k d) e ∙ r.1))

pub loop-k-preserved : goal.loop-k-preserved
loop-k-preserved c =
    let C = told (Ok c.args.fields) in
    let k = c.loop-k.k in
    let there = found c.args.fields _ k _ c.found-sections-items.ensures c.loop-k-test.true in
    told-one (spans-in C) (λ k. refl) _ _ c.loop-k.spans _ k c.loop-k.invariant there.0
    (c.write_field.ensures ∙ ap (λ (f : Sections). sets c.loop-k.spans (10 * k) (field_spans f)) there.1)

pub returns : goal.returns
unfolding spans_of
returns c =
    let f = c.args.fields in
    let places : length f.fields ≡ 16 = search (rules, unmapped) in
    let all : length (take f.count f.fields) ≡ f.count = length-take-le f.count f.fields (omega (arith, places, c.requires.0.few)) in
    told-all (spans-in (told (Ok f))) (λ k. refl) c.args.spans.now f.count c.loop-k.spans c.loop-k.k c.loop-k.invariant
    (omega (arith, all, ap length c.found-sections-items.ensures, c.loop-k-test.false)) (omega (arith, c.requires.0.few, c.requires.1))
