-- The laws of octets that are shown, for every list of fields and wherever it starts.
-- Assumes nothing.
use mathlib.Core.Path.{◌≡◌, refl, ◌∙◌}
use mathlib.Core.List.{List, [], ◌∷◌, ◌++◌, append_assoc, append-nil}
use Prim.Native.Nat.{ℕ, ◌+◌}
use Rattle.layout.specs.Fields.{Field, FieldAt, shown, width_of, placed, after, values_of}
use Rattle.layout.specs.Shown.{shown_of}
use Rattle.layout.specs.Outcomes.{and_check, all_allowed}
use Rattle.layout.proofs.Blocks.{after-append, values-meet}
use Rattle.layout.proofs.Outcomes.{allowed_meet, and_passed}

shown-append : (a b : List FieldAt) (s : List ℕ) → shown_of (a ++ b) s ≡ shown_of a s ++ shown_of b s
unfolding shown_of
shown-append [] b s = refl
shown-append (p ∷ ps) b s = rw (append_assoc, shown-append ps b s)

-- blocks one after the other
pub shown-meet : (end : ℕ) (a b : List Field) (s : List ℕ) → shown_of (after end (a ++ b)) s ≡ shown_of (after end a) s ++ shown_of (after (end + width_of a) b) s
shown-meet end a b s = rw (after-append, shown-append)

-- octets that are shown behind other fields change neither the values nor what the checks say
pub values-shown : (end : ℕ) (fs : List Field) (n : ℕ) (s : List ℕ) → values_of (after end (fs ++ (shown n ∷ []))) s ≡ values_of (after end fs) s
unfolding values_of placed
values-shown end fs n s = values-meet end fs (shown n ∷ []) s ∙ append-nil _

pub allowed_shown : (section end : ℕ) (fs : List Field) (n : ℕ) (s : List ℕ) → all_allowed section (after end (fs ++ (shown n ∷ []))) s ≡ all_allowed section (after end fs) s
unfolding all_allowed and_check placed
allowed_shown section end fs n s = allowed_meet section end fs (shown n ∷ []) s ∙ and_passed _
