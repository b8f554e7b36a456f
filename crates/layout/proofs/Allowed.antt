-- No field is out of its range: of two runs of fields that meet, none of the one and none of the other.
-- Assumes nothing.
use mathlib.Core.List.{List, [], ◌∷◌, ◌++◌}
use Prim.Native.Nat.{ℕ, ◌+◌}
use Rattle.layout.specs.Fields.{Field, FieldAt, width_of, after, AllAllowed}
use Rattle.layout.proofs.Blocks.{after-append}

both-allowed : (a b : List FieldAt) (s : List ℕ) → AllAllowed (a ++ b) s → AllAllowed a s × AllAllowed b s
unfolding AllAllowed
both-allowed [] b s h = (tt, h)
both-allowed (p ∷ ps) b s h = let rest = both-allowed ps b s h.1 in ((h.0, rest.0), rest.1)

allowed-both : (a b : List FieldAt) (s : List ℕ) → AllAllowed a s → AllAllowed b s → AllAllowed (a ++ b) s
unfolding AllAllowed
allowed-both [] b s h g = g
allowed-both (p ∷ ps) b s h g = (h.0, allowed-both ps b s h.1 g)

pub allowed-apart : (end : ℕ) (a b : List Field) (s : List ℕ) → AllAllowed (after end (a ++ b)) s → AllAllowed (after end a) s × AllAllowed (after (end + width_of a) b) s
allowed-apart end a b s h = both-allowed (after end a) (after (end + width_of a) b) s (rw after-append at h)

pub allowed-meet : (end : ℕ) (a b : List Field) (s : List ℕ) → AllAllowed (after end a) s → AllAllowed (after (end + width_of a) b) s → AllAllowed (after end (a ++ b)) s
allowed-meet end a b s h g = rw after-append (allowed-both (after end a) (after (end + width_of a) b) s h g)
