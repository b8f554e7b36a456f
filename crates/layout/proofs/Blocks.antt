-- The laws of fields that follow one another, for every list of fields and wherever it starts.
-- Assumes nothing.
use mathlib.Core.Path.{◌≡◌, refl, ap, sym, subst, ◌∙◌}
use mathlib.Core.List.{List, [], ◌∷◌, ◌++◌, append_assoc}
use mathlib.Core.Bool.{Bool, true, false, cond}
use Prim.Native.Nat.{ℕ, ◌+◌, ◌≤◌}
use native.Mathlib.Nat.{zero-add, add-zero, add_assoc, add_comm}
use native.Mathlib.Omega.{arith}
use lib.ListN.{length, drop}
use Rattle.octets.specs.Octets.{be_at, part}
use Rattle.octets.proofs.Laws.{part-add, part-all, be_at-drop}
use Rattle.layout.specs.Outcomes.{all_allowed}
use Rattle.layout.specs.Fields.{Field, held, said, shown, FieldAt, width, allowed, reads, width_of, placed, after, Run, run, runs, Cover, lowest_bad, bad_place, values_of, octets_of, AllAllowed, Covered}

pub width-append : (a b : List Field) → width_of (a ++ b) ≡ width_of a + width_of b
unfolding width_of
width-append [] b = omega arith
width-append (f ∷ fs) b = omega (arith, width-append fs b)

-- ---- where fields stand

-- one run of fields and then another
placed-append : (end k : ℕ) (a b : List Field) → placed end k (a ++ b) ≡ placed end k a ++ placed end (k + width_of a) b
unfolding placed width_of
placed-append end k [] b = rw add-zero
placed-append end k (f ∷ fs) b = rw (← add_assoc) (ap (λ (l : List FieldAt). record { at = end + k; field = f } ∷ l) (placed-append end (k + width f) fs b))

-- counted from a later octet
placed-shift : (end j k : ℕ) (fs : List Field) → placed (end + j) k fs ≡ placed end (j + k) fs
unfolding placed
placed-shift end j k [] = refl
placed-shift end j k (f ∷ fs) =
    rw (add_assoc end j k, placed-shift end j (k + width f) fs, add_assoc j k (width f))

-- two runs that meet: the second follows the octet at which the first ends
pub after-append : (end : ℕ) (a b : List Field) → after end (a ++ b) ≡ after end a ++ after (end + width_of a) b
after-append end a b = rw (placed-append, placed-shift, add_comm 1 (width_of a))

-- ---- what they say

pub values-append : (a b : List FieldAt) (s : List ℕ) → values_of (a ++ b) s ≡ values_of a s ++ values_of b s
unfolding values_of
values-append [] b s = refl
values-append (p ∷ ps) b s = rw (append_assoc, values-append ps b s)

pub bad-append : (a b : List FieldAt) (s : List ℕ) (later : ℕ) → lowest_bad (a ++ b) s later ≡ lowest_bad a s (lowest_bad b s later)
unfolding lowest_bad
bad-append [] b s later = refl
bad-append (p ∷ ps) b s later = rw (bad-append ps b s later)

-- blocks one after the other
pub values-meet : (end : ℕ) (a b : List Field) (s : List ℕ) → values_of (after end (a ++ b)) s ≡ values_of (after end a) s ++ values_of (after (end + width_of a) b) s
values-meet end a b s = rw (after-append, values-append)

pub bad-meet : (end : ℕ) (a b : List Field) (s : List ℕ) (later : ℕ) → lowest_bad (after end (a ++ b)) s later ≡ lowest_bad (after end a) s (lowest_bad (after (end + width_of a) b) s later)
bad-meet end a b s later = rw (after-append, bad-append)

-- ---- they cover the octets

-- the octets of fields one after the other, the first of them from octet `first` on
abbrev pub runs_from : ℕ → List Field → List Run
runs_from first [] = []
runs_from first (held w a m ∷ fs) = run first w ∷ runs_from (first + w) fs
runs_from first (said v ∷ fs) = runs_from first fs
runs_from first (shown w ∷ fs) = run first w ∷ runs_from (first + w) fs

pub runs-from : (k : ℕ) (fs : List Field) → runs (placed 0 k fs) ≡ runs_from k fs
unfolding runs placed
runs-from k [] = refl
runs-from k (held w a m ∷ fs) = λ i. run (zero-add k i) w ∷ runs-from (k + w) fs i
runs-from k (said v ∷ fs) = rw add-zero (runs-from k fs)
runs-from k (shown w ∷ fs) = λ i. run (zero-add k i) w ∷ runs-from (k + w) fs i

-- the fields' octets, one after the other, are the octets from where they start: none is left out and none is in two
octets-from : (end k : ℕ) (fs : List Field) (s : List ℕ) → octets_of (placed end k fs) s ≡ part s (end + k) (width_of fs)
unfolding octets_of placed width_of part
octets-from end k [] s = refl
octets-from end k (f ∷ fs) s = rw (octets-from end (k + width f) fs s, part-add, add_assoc)

-- by number: the octets of the fields are those from where they start to where they end, each once
cover-from : (end k : ℕ) (fs : List Field) (last : ℕ) → end + k + width_of fs ≡ last + 1 → Cover (end + k) (runs (placed end k fs)) last
unfolding runs placed width_of Cover
cover-from end k [] last e = omega arith
cover-from end k (held w a m ∷ fs) last e =
    (refl, rw add_assoc (cover-from end (k + w) fs last (omega arith)))
cover-from end k (said v ∷ fs) last e = rw add-zero (cover-from end k fs last (omega arith))
cover-from end k (shown w ∷ fs) last e =
    (refl, rw add_assoc (cover-from end (k + w) fs last (omega arith)))

-- and those of a section as long as its fields are the whole section
pub covered : (fs : List Field) (layout : List Run) (s : List ℕ) → runs (after 0 fs) ≡ layout → length s ≡ width_of fs → Covered (after 0 fs) layout s
covered fs layout s e l =
    record {
      stand = e;
      numbers = subst (λ (rs : List Run). Cover 1 rs (length s)) e (cover-from 0 1 fs (length s) (omega arith));
      strung = octets-from 0 1 fs s ∙ ap (part s 1) (sym l) ∙ part-all s;
    }

-- ---- no field is out of its range

pub bad-clear : (end k : ℕ) (fs : List Field) (s : List ℕ) (later : ℕ) → 1 ≤ k → lowest_bad (placed end k fs) s later ≡ 0 → AllAllowed (placed end k fs) s × (later ≡ 0)
unfolding lowest_bad AllAllowed placed
bad-clear end k [] s later h e = (tt, e)
bad-clear end k (f ∷ fs) s later h e = by_cases (allowed f (be_at s (end + k) (width f))) refl e (bad-clear end (k + width f) fs s later (omega arith))
  where
    by_cases : (t : Bool) → allowed f (be_at s (end + k) (width f)) ≡ t → cond t (lowest_bad (placed end (k + width f) fs) s later) (end + k) ≡ 0 → (lowest_bad (placed end (k + width f) fs) s later ≡ 0 → AllAllowed (placed end (k + width f) fs) s × (later ≡ 0)) → ((allowed f (be_at s (end + k) (width f)) ≡ true) × AllAllowed (placed end (k + width f) fs) s) × (later ≡ 0)
    by_cases true q e rest = let p = rest e in ((q, p.0), p.1)
    by_cases false q e rest = absurd (omega arith)

pub clear-bad : (ps : List FieldAt) (s : List ℕ) (later : ℕ) → AllAllowed ps s → lowest_bad ps s later ≡ later
unfolding lowest_bad AllAllowed
clear-bad [] s later h = refl
clear-bad (p ∷ ps) s later h = rw h.0 (clear-bad ps s later h.1)

pub bad-none : (end k : ℕ) (fs : List Field) (s : List ℕ) → 1 ≤ k → bad_place (placed end k fs) s ≡ 0 → AllAllowed (placed end k fs) s
bad-none end k fs s h e = (bad-clear end k fs s 0 h e).0

pub none-bad : (ps : List FieldAt) (s : List ℕ) → AllAllowed ps s → bad_place ps s ≡ 0
none-bad ps s h = clear-bad ps s 0 h

-- a block that follows an octet after `end`, as it stands in a run that follows `end`
pub moved : (end j : ℕ) (fs : List Field) (s : List ℕ) → values_of (after (end + j) fs) s ≡ values_of (placed end (j + 1) fs) s
moved end j fs s = rw placed-shift

pub allowed_moved : (section end j : ℕ) (fs : List Field) (s : List ℕ) → all_allowed section (after (end + j) fs) s ≡ all_allowed section (placed end (j + 1) fs) s
allowed_moved section end j fs s = rw placed-shift

-- fields of a part that starts in the middle of the section
values-dropped : (end j k : ℕ) (fs : List Field) (s : List ℕ) → 1 ≤ k → values_of (placed end k fs) (drop j s) ≡ values_of (placed (end + j) k fs) s
unfolding values_of placed
values-dropped end j k [] s h = refl
values-dropped end j k (f ∷ fs) s h =
    let e : end + k + j ≡ end + j + k = omega arith in
    let here : be_at (drop j s) (end + k) (width f) ≡ be_at s (end + j + k) (width f) =
    be_at-drop s j (end + k) (width f) (omega arith) ∙ ap (λ (n : ℕ). be_at s n (width f)) e
    in
    let rest = values-dropped end j (k + width f) fs s (omega arith) in
    λ i. reads f (here i) ++ rest i

pub values-drop : (end j : ℕ) (fs : List Field) (s : List ℕ) → values_of (after end fs) (drop j s) ≡ values_of (after (end + j) fs) s
values-drop end j fs s = values-dropped end j 1 fs s (omega arith)
