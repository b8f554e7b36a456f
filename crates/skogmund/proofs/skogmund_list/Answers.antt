-- `skogmund_list`: the listing goes by way of a buffer that it always fits, so that nothing is written where it doesn't fit the lent one.
-- Assumes nothing.
use Prim.Native.Nat.{ℕ, ◌≤◌, ◌<◌}
use native.Mathlib.Omega.{arith}
use mathlib.Core.Path.{◌≡◌, sym, ap, ap₂, ◌∙◌}
use mathlib.Core.Bool.{true, false}
use mathlib.Core.List.{List, [], ◌∷◌, ◌++◌}
use lib.ListN.{length, drop}
use lib.Seq.{length-take-le}
use borrow.Author.Tests.{le-leb, lt-leb}
use Rattle.lent.specs.Lent.{done_both, over}
use Rattle.lent.proofs.Written.{starts-within, starts-to, starts-front}
use Rattle.lent.proofs.Answers.{room-said}
use Rattle.report.specs.Texts.{listing}
use Rattle.skogmund.specs.Entries.{no_room, listing_told}
use Rattle.skogmund.proofs.skogmund_list.Goals as goal

pub returns-then-text-end : goal.returns-then-text-end
unfolding listing_told
returns-then-text-end c =
    let a = c.args in
    let long : length a.text.now < length (listing a.queue.now) = omega (arith, starts-to _ _ c.whole_listing-end.ensures, c.if-text-end.true) in
    rw (lt-leb _ _ long)

pub returns-then-not-numbers : goal.returns-then-not-numbers
unfolding listing_told
returns-then-not-numbers c =
    let fits-text : length (listing c.args.queue.now) ≤ length c.args.text.now = omega (arith, starts-to _ _ c.whole_listing-end.ensures, c.if-text-end.false) in
    let a = c.args in
    let h = room-said a.length.now (c.whole_listing-end.result ∷ []) c.numbers.ensures false (c.if-not-numbers.true) in
    rw (le-leb _ _ (fits-text), h.0) (ap (done_both no_room a.text.now) h.1)

pub slice_bounds-room-end : goal.slice_bounds-room-end
slice_bounds-room-end c = starts-within _ _ c.whole_listing-end.ensures

pub slice_bounds-copy_from_slice-end-3 : goal.slice_bounds-copy_from_slice-end-3
slice_bounds-copy_from_slice-end-3 c = sym (length-take-le _ _ (starts-within _ _ c.whole_listing-end.ensures))

pub copy_from_slice-requires : goal.copy_from_slice-requires
copy_from_slice-requires c =
    length-take-le _ _ c.if-text-end.false ∙ sym (length-take-le _ _ (starts-within _ _ c.whole_listing-end.ensures))

pub returns : goal.returns
unfolding listing_told
returns c =
    let a = c.args in
    let to : c.whole_listing-end.result ≡ length (listing a.queue.now) = starts-to _ _ c.whole_listing-end.ensures in
    let h = room-said a.length.now (c.whole_listing-end.result ∷ []) c.numbers.ensures true (c.if-not-numbers.false) in
    let front = c.copy_from_slice.ensures.after ∙ starts-front _ _ c.whole_listing-end.ensures in
    let fits : length (listing a.queue.now) ≤ length a.text.now = omega (arith, to, c.if-text-end.false) in
    rw (le-leb _ _ fits, h.0)
    (ap₂ (done_both 0) (ap₂ (λ (t : List ℕ) (k : ℕ). t ++ drop k a.text.now) front to) (h.1 ∙ ap (λ (k : ℕ). over a.length.now (k ∷ [])) to))
