-- `groups_of`: what was read so far stands before what follows.
-- Assumes nothing.
use mathlib.Core.Path.{◌≡◌, refl, ap, sym, ◌∙◌}
use mathlib.Core.List.{List}
use Prim.Native.Nat.{ℕ, suc, ◌+◌, ◌-◌, ◌*◌, ◌^◌, ◌≤◌, ◌<◌}
use borrow.Author.Rules.{rules}
use native.Mathlib.Omega.{arith}
use native.Mathlib.Nat.{mul-le-mul_left}
use lib.ListN.{length, drop, get_or}
use lib.Pow.{pow-add}
use Rattle.std.specs.Prelude.{None}
use Rattle.cutting.specs.Numbers.{found, groups}
use Rattle.cutting.proofs.Numbers.{shifted, first-shifted, ahead, ahead-before, ahead-last, ahead-none, ahead-longer, group-last, group-more, group-end}
use Rattle.cutting.proofs.groups_of.Invariants.{Going}
use Rattle.cutting.proofs.groups_of.Goals as goal

module _ (s : List ℕ) (value scale i : ℕ) (g : Going s value scale i) where
  -- none follows
  none : length s ≤ i → None ≡ groups 5 s
  none l = sym (g.so_far ∙ ap (ahead value scale i) (group-end s i (5 - i) l) ∙ ahead-none value scale i)

  -- none may follow
  full : 5 ≤ i → None ≡ groups 5 s
  unfolding groups
  full l =
      let k : 5 - i ≡ 0 = omega arith in
      sym (g.so_far ∙ ap (λ (k : ℕ). ahead value scale i (groups k (drop i s))) k ∙ ahead-none value scale i)

  module _ (few : i < 5) (l : i < length s) where
    -- the group at i is the last, or others follow it
    last : get_or s i 0 < 128 → ahead value scale i (found (get_or s i 0) 1) ≡ groups 5 s
    last x =
        let k : 5 - i ≡ suc (4 - i) = omega arith in
        sym (g.so_far ∙ ap (λ (k : ℕ). ahead value scale i (groups k (drop i s))) k ∙ ap (ahead value scale i) (group-last s i (4 - i) l x))

    more : 128 ≤ get_or s i 0 → get_or s i 0 < 256 → Going s (value + scale * (get_or s i 0 - 128)) (scale * 128) (i + 1)
    more x octet =
        let low = get_or s i 0 - 128 in
        let k : 5 - i ≡ suc (5 - (i + 1)) = omega arith in
        let next : suc i ≡ i + 1 = omega arith in
        let seven : 7 * (i + 1) ≡ 7 * i + 7 = omega arith in
        let part : scale * low ≤ scale * 127 = mul-le-mul_left scale (omega arith) in
        record {
          power = ap (λ (k : ℕ). k * 128) g.power ∙ sym (ap (λ (k : ℕ). 2 ^ k) seven ∙ pow-add 2 (7 * i) 7);
          below = omega (arith, part, g.below);
          so_far = g.so_far
              ∙ ap (λ (k : ℕ). ahead value scale i (groups k (drop i s))) k
              ∙ ap (ahead value scale i) (group-more s i (5 - (i + 1)) l x)
              ∙ ahead-before value scale i low (groups (5 - (i + 1)) (drop (suc i) s)) g.power g.below
              ∙ ap (λ (k : ℕ). ahead (value + scale * low) (scale * 128) k (groups (5 - (i + 1)) (drop k s))) next;
        }

-- an octet that is got is the one that stands there
pub returns-in_err-first : goal.returns-in_err-first
returns-in_err-first c =
    let s = c.args.octets.now in
    let end : length s ≤ 0 = search rules in
    let nothing : c.from_residual.result ≡ None = search rules in
    nothing ∙ sym (group-end s 0 5 end)

pub returns-then-first-lt128 : goal.returns-then-first-lt128
returns-then-first-lt128 c =
    let s = c.args.octets.now in
    let there : 0 < length s = search rules in
    let group : c.in_ok-first.field-0.now ≡ get_or s 0 0 = search rules in
    ap (λ (n : ℕ). found n 1) group ∙ sym (group-last s 0 4 there (omega (arith, group)))

pub loop-i-init : goal.loop-i-init
loop-i-init c =
    let s = c.args.octets.now in
    let there : 0 < length s = search rules in
    let group : c.in_ok-first.field-0.now ≡ get_or s 0 0 = search rules in
    record {
      power = refl;
      below = omega (arith, group, c.type_inv.octets 0);
      so_far = group-more s 0 4 there (omega (arith, group, c.if-first-lt128.false))
          ∙ first-shifted (get_or s 0 0 - 128) (groups 4 (drop 1 s))
          ∙ ap (λ (n : ℕ). shifted (n - 128) 128 1 (groups 4 (drop 1 s))) (sym group);
    }

pub returns-in_err-group : goal.returns-in_err-group
returns-in_err-group c =
    let l = c.loop-i in
    let end : length c.args.octets.now ≤ l.i = search rules in
    let nothing : c.from_residual-in_err-group.result ≡ None = search rules in
    nothing ∙ none c.args.octets.now l.value l.scale l.i l.invariant end

pub returns-then-group-eq0 : goal.returns-then-group-eq0
returns-then-group-eq0 c =
    let l = c.loop-i in
    let s = c.args.octets.now in
    let there : l.i < length s = search rules in
    let group : c.in_ok-group.field-0.now ≡ get_or s l.i 0 = search rules in
    sym (ahead-longer l.value l.scale l.i _ (sym group ∙ c.if-group-eq0.true) (λ e. omega arith))
    ∙ last s l.value l.scale l.i l.invariant c.loop-i-test.true there (omega (arith, group))

pub returns-then-group-lt128 : goal.returns-then-group-lt128
returns-then-group-lt128 c =
    let l = c.loop-i in
    let s = c.args.octets.now in
    let there : l.i < length s = search rules in
    let group : c.in_ok-group.field-0.now ≡ get_or s l.i 0 = search rules in
    ap (λ (n : ℕ). found (l.value + l.scale * n) (l.i + 1)) group
    ∙ sym (ahead-last l.value l.scale l.i _ l.invariant.power l.invariant.below (λ e. absurd (c.if-group-eq0.false (group ∙ e))))
    ∙ last s l.value l.scale l.i l.invariant c.loop-i-test.true there (omega (arith, group))

pub loop-i-preserved : goal.loop-i-preserved
loop-i-preserved c =
    let l = c.loop-i in
    let s = c.args.octets.now in
    let there : l.i < length s = search rules in
    let group : c.in_ok-group.field-0.now ≡ get_or s l.i 0 = search rules in
    rw group
    (more s l.value l.scale l.i l.invariant c.loop-i-test.true there (omega (arith, group, c.if-group-lt128.false)) (omega (arith, c.type_inv.octets l.i)))

pub returns : goal.returns
returns c = let l = c.loop-i in full c.args.octets.now l.value l.scale l.i l.invariant c.loop-i-test.false
