-- Section 3's fields block by block: octets 1 to 14, octets 15 to 72, the poles, and the list, of which a record holds nothing.
-- Assumes nothing.
use mathlib.Core.Path.{◌≡◌, refl, ap, ◌∙◌}
use mathlib.Core.List.{List, [], ◌∷◌, ◌++◌}
use Prim.Native.Nat.{ℕ}
use Rattle.layout.specs.Fields.{Value, shown, width_of, placed, after, values_of, AllAllowed}
use Rattle.layout.specs.Outcomes.{and_check, all_allowed}
use Rattle.layout.proofs.Blocks.{values-meet}
use Rattle.layout.proofs.Outcomes.{allowed_meet}
use Rattle.layout.proofs.Allowed.{allowed-apart, allowed-meet}
use Rattle.layout.proofs.Shown.{values-shown, allowed_shown}
use Rattle.grid.specs.Blocks.{grid_head, earth_size, earth, counts, corners, common, poles}
use Rattle.grid.specs.Templates.{fields₃}
use Rattle.grid.specs.declared.templates.Template.{Template}

module _ (template : Template) (n : ℕ) (s : List ℕ) where
  pub values-by-block : values_of (after 0 (fields₃ template n)) s ≡ values_of (after 0 grid_head) s ++ (values_of (after 14 common) s ++ values_of (after 72 (poles template)) s)
  unfolding fields₃ width_of grid_head earth_size earth counts corners common
  values-by-block =
      values-meet 0 grid_head (common ++ (poles template ++ (shown n ∷ []))) s
      ∙ ap (λ (l : List Value). values_of (after 0 grid_head) s ++ l)
      (values-meet 14 common (poles template ++ (shown n ∷ [])) s
      ∙ ap (λ (l : List Value). values_of (after 14 common) s ++ l) (values-shown 72 (poles template) n s))

  pub checks-by-block : all_allowed 3 (after 0 (fields₃ template n)) s ≡ and_check (all_allowed 3 (after 0 grid_head) s) (and_check (all_allowed 3 (after 14 common) s) (all_allowed 3 (after 72 (poles template)) s))
  unfolding fields₃ width_of grid_head earth_size earth counts corners common
  checks-by-block =
      allowed_meet 3 0 grid_head (common ++ (poles template ++ (shown n ∷ []))) s
      ∙ ap (and_check (all_allowed 3 (after 0 grid_head) s))
      (allowed_meet 3 14 common (poles template ++ (shown n ∷ [])) s
      ∙ ap (and_check (all_allowed 3 (after 14 common) s)) (allowed_shown 3 72 (poles template) n s))

  pub allowed-by-block : AllAllowed (after 0 (fields₃ template n)) s → AllAllowed (after 0 grid_head) s × AllAllowed (after 30 counts) s × AllAllowed (after 46 corners) s × AllAllowed (after 72 (poles template)) s
  unfolding fields₃ width_of grid_head earth_size earth counts corners common
  allowed-by-block h =
      let head = allowed-apart 0 grid_head (common ++ (poles template ++ (shown n ∷ []))) s h in
      let body = allowed-apart 14 common (poles template ++ (shown n ∷ [])) s head.1 in
      let mesh = allowed-apart 30 counts corners s (allowed-apart 14 earth (counts ++ corners) s body.0).1 in
      (head.0, mesh.0, mesh.1, (allowed-apart 72 (poles template) (shown n ∷ []) s body.1).0)

  pub block-by-block-allowed : AllAllowed (after 0 grid_head) s → AllAllowed (after 30 counts) s → AllAllowed (after 46 corners) s → AllAllowed (after 72 (poles template)) s → AllAllowed (after 0 (fields₃ template n)) s
  unfolding fields₃ AllAllowed placed width_of grid_head earth_size earth counts corners common
  block-by-block-allowed in_head in-counts in-corners in-poles =
      let in-earth : AllAllowed (after 14 earth) s = search in
      allowed-meet 0 grid_head (common ++ (poles template ++ (shown n ∷ []))) s in_head
      (allowed-meet 14 common (poles template ++ (shown n ∷ [])) s
      (allowed-meet 14 earth (counts ++ corners) s in-earth (allowed-meet 30 counts corners s in-counts in-corners))
      (allowed-meet 72 (poles template) (shown n ∷ []) s in-poles (refl, tt)))
