-- How a section is cut off by its own length octets, and that sections strung together are cut into themselves.
-- Assumes nothing.
use Prim.Native.Nat.{ℕ, ◌+◌, ◌-◌, ◌≤◌}
use native.Mathlib.Omega.{arith}
use mathlib.Core.Path.{◌≡◌, refl, ap, sym, subst, ◌∙◌}
use mathlib.Core.Bool.{Bool, true, false, cond}
use mathlib.Core.Logic.{◌⊎◌, inl, inr, ⊎_elim}
use mathlib.Core.List.{List, ◌++◌, Memᴰ}
use lib.Dec.{ltb}
use lib.ListN.{length, take, drop, length-append, length-drop}
use lib.Seq.{length-take-le, take-length, take-append-le}
use borrow.Author.Tests.{ltb-false, le-ltb}
use Rattle.std.specs.Prelude.{Some, None}
use Rattle.octets.specs.Octets.{be_at}
use Rattle.octets.proofs.Laws.{be_at-drop, be_at-ahead, be_at-take}
use Rattle.cutting.specs.Cuts.{no_item, item, cut_of, strung}
use Rattle.cutting.specs.Sections.{stretch, section_step, end_of, end_after, Sized}
use Rattle.cutting.proofs.Cuts.{Advances}
use Rattle.cutting.proofs.Strung.{LooksNoFurther, Spells, each_item, cut-strung, strung-cut}

-- ---- a section that is cut has 5 octets or more, and as many as its own octets say, which are there; or there is none

pub record WholeSection (s : List ℕ) : Type 0 where
  pub least : 5 ≤ be_at s 1 4
  pub inside : be_at s 1 4 ≤ length s

pub whole-or-none : (s : List ℕ) → (section_step s ≡ no_item) ⊎ WholeSection s
unfolding section_step
whole-or-none s = by-least (ltb (be_at s 1 4) 5) refl (ltb (length s) (be_at s 1 4)) refl
  where
    by-least : (t : Bool) → ltb (be_at s 1 4) 5 ≡ t → (u : Bool) → ltb (length s) (be_at s 1 4) ≡ u → (section_step s ≡ no_item) ⊎ WholeSection s
    by-least true t u e = inl (rw t)
    by-least false t true u = inl (rw (t, u))
    by-least false t false u = inr (record { least = ltb-false _ _ t; inside = ltb-false _ _ u })

pub whole-step : (s : List ℕ) → WholeSection s → section_step s ≡ item (take (be_at s 1 4) s) (be_at s 1 4)
unfolding section_step
whole-step s w = rw (le-ltb _ _ w.least, le-ltb _ _ w.inside)

-- what is found
pub record SectionIs (s x : List ℕ) (end : ℕ) : Type 0 where
  pub whole : WholeSection s
  pub size : be_at s 1 4 ≡ end
  pub octets : x ≡ take end s

pub section-is : (s x : List ℕ) (end : ℕ) → section_step s ≡ item x end → SectionIs s x end
section-is s x end e = ⊎_elim (λ n. let z : ◌≡◌ {A = ℕ} 0 1 = cc in absurd (omega arith)) is (whole-or-none s)
  where
    is : WholeSection s → SectionIs s x end
    is w =
        let found = whole-step s w in
        let size : be_at s 1 4 ≡ end = cc in
        let octets : x ≡ take (be_at s 1 4) s = cc in
        record { whole = w; size = size; octets = octets ∙ ap (λ (n : ℕ). take n s) size }

-- ---- so a string of sections is cut by it

pub sections-advance : Advances section_step
sections-advance s x end e =
    let i = section-is s x end e in
    record { some = omega (arith, i.whole.least, i.size); inside = omega (arith, i.whole.inside, i.size) }

pub sections-look-no-further : LooksNoFurther section_step
sections-look-no-further p q x end e =
    let i = section-is p x end e in
    let w = i.whole in
    let size : be_at (p ++ q) 1 4 ≡ be_at p 1 4 = be_at-ahead p q 1 4 (omega (arith, w.least, w.inside)) in
    whole-step (p ++ q) (record { least = omega (arith, size, w.least); inside = omega (arith, size, w.inside, length-append p q) })
    ∙ ap (λ (n : ℕ). item (take n (p ++ q)) n) (size ∙ i.size)
    ∙ ap (λ (y : List ℕ). item y end) (take-append-le end p q (omega (arith, w.inside, i.size)) ∙ sym i.octets)

-- octets whose first four say how many they are spell a section, and what is found is of this kind
pub sized-spells : (x : List ℕ) → Sized x → Spells section_step x x
sized-spells x z rest =
    sections-look-no-further x rest x (length x)
    (whole-step x (record { least = omega (arith, z.least, z.long); inside = omega (arith, z.long) })
    ∙ ap (λ (n : ℕ). item (take n x) n) z.long
    ∙ ap (λ (y : List ℕ). item y (length x)) (take-length x))

pub found-sized : (s x : List ℕ) (end : ℕ) → section_step s ≡ item x end → Sized x
found-sized s x end e =
    let i = section-is s x end e in
    let inside : end ≤ length s = omega (arith, i.size, i.whole.inside) in
    let long : length x ≡ end = ap length i.octets ∙ length-take-le end s inside in
    let said : be_at x 1 4 ≡ end = ap (λ (y : List ℕ). be_at y 1 4) i.octets ∙ be_at-take s end 1 4 inside (omega (arith, i.whole.least, i.size)) ∙ i.size in
    record { least = omega (arith, long, i.whole.least, i.size); long = said ∙ sym long }

-- sections strung together are cut into themselves, and what is cut into sections is these strung together
pub cut-sections : (xs : List (List ℕ)) → ((x : List ℕ) → Memᴰ x xs → Sized x) → cut_of section_step (strung (λ x. x) xs) ≡ record { items = xs; whole = true }
cut-sections xs z = cut-strung section_step sections-advance (λ x. x) xs (λ x m. sized-spells x (z x m))

pub sections-back : (s : List ℕ) → (cut_of section_step s).whole ≡ true → (strung (λ x. x) (cut_of section_step s).items ≡ s) × ((x : List ℕ) → Memᴰ x (cut_of section_step s).items → Sized x)
sections-back s w = (strung-cut section_step sections-advance (λ x. x) (λ s. Unit {0}) (λ s end f. tt) (λ s x end f e. (section-is s x end e).octets) s tt w, each_item section_step sections-advance Sized found-sized s)

-- ---- where the section ends that starts after so many octets

pub size-after : (s : List ℕ) (start : ℕ) → be_at (drop start s) 1 4 ≡ be_at s (start + 1) 4
size-after s start = let place : 1 + start ≡ start + 1 = omega arith in be_at-drop s start 1 4 (omega arith) ∙ ap (λ (n : ℕ). be_at s n 4) place

-- by the length octets behind `start`, and as many octets as are there
pub end_by_size : (s : List ℕ) (start : ℕ)
    → end_after s start ≡ cond (ltb (be_at s (start + 1) 4) 5) None (cond (ltb (length s - start) (be_at s (start + 1) 4)) None (Some (start + be_at s (start + 1) 4)))
unfolding end_after section_step
end_by_size s start = rw (size-after s start, length-drop start s) (told _ _ (ltb (be_at s (start + 1) 4) 5) (ltb (length s - start) (be_at s (start + 1) 4)))
  where
    told : (x : List ℕ) (n : ℕ) (t u : Bool) → end_of start (cond t no_item (cond u no_item (item x n))) ≡ cond t None (cond u None (Some (start + n)))
    told x n true u = refl
    told x n false true = refl
    told x n false false = refl

-- a section stands there, and it ends within the octets
pub record EndsAfter (s : List ℕ) (start end : ℕ) : Type 0 where
  pub later : start + 5 ≤ end
  pub inside : end ≤ length s
  pub found : section_step (drop start s) ≡ item (stretch s start end) (end - start)

pub ends-or-none : (s : List ℕ) (start : ℕ) → ((end_after s start ≡ None) × (section_step (drop start s) ≡ no_item)) ⊎ ((end : ℕ) × (end_after s start ≡ Some end) × EndsAfter s start end)
unfolding end_after
ends-or-none s start = ⊎_elim (λ e. inl (ap (end_of start) e, e)) (λ w. inr (stands w)) (whole-or-none (drop start s))
  where
    stands : WholeSection (drop start s) → (end : ℕ) × (end_after s start ≡ Some end) × EndsAfter s start end
    stands w =
        let n = be_at (drop start s) 1 4 in
        let found = whole-step (drop start s) w in
        let size : start + n - start ≡ n = omega arith in (
          start + n,
          ap (end_of start) found,
          record {
            later = omega (arith, w.least);
            inside = omega (arith, w.least, w.inside, length-drop start s);
            found = found ∙ ap (λ (k : ℕ). item (take k (drop start s)) k) (sym size);
          },
        )

-- so where an end is answered, a section stands, and none where none is
pub stands-after : (s : List ℕ) (start end : ℕ) → end_after s start ≡ Some end → EndsAfter s start end
stands-after s start end e =
    ⊎_elim (λ n. let gone : None ≡ Some end = sym n.0 ∙ e in let z : ◌≡◌ {A = ℕ} 0 1 = cc in absurd (omega arith))
    (λ x. let same : x.0 ≡ end = let both : Some x.0 ≡ Some end = sym x.1 ∙ e in cc in subst (EndsAfter s start) same x.2)
    (ends-or-none s start)

pub none_after : (s : List ℕ) (start : ℕ) → end_after s start ≡ None → section_step (drop start s) ≡ no_item
none_after s start e =
    ⊎_elim (λ n. n.1) (λ x. let gone : None ≡ Some x.0 = sym e ∙ x.1 in let z : ◌≡◌ {A = ℕ} 0 1 = cc in absurd (omega arith)) (ends-or-none s start)
