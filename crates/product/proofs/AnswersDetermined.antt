-- Any two answers that `read`'s contract allows for a section are one answer.
-- Assumes nothing.
use Prim.Native.Nat.{ℕ, zero, suc}
use mathlib.Core.Path.{◌≡◌, refl}
use mathlib.Core.List.{List, [], ◌∷◌, ◌++◌}
use lib.ListN.{drop, get_or}
use lib.IntN.{nat_abs}
use Rattle.layout.specs.Fields.{Value, none, missing, is, which, whole_in, natural_in}
use Rattle.layout.specs.Time.{time_in}
use Rattle.layout.proofs.Untold.{to32, back32, to_signed, back_signed, to_time, told_back, one_answer}
use Rattle.product.specs.Blocks.{parameter_in, process_in, forecast_in, scaled_in, surface_in, ensemble_in, cluster_in, probability_in, aerosol_in, end_in, interval_in, tag_in, ahead_in, behind_in, values_in}
use Rattle.product.specs.Section4.{outcome₄}
use Rattle.product.specs.declared.blocks.Process.{Process}
use Rattle.product.specs.declared.blocks.Scaled.{Scaled}
use Rattle.product.specs.declared.blocks.Surface.{Surface}
use Rattle.product.specs.declared.blocks.Part.{Part}
use Rattle.product.specs.declared.blocks.Part.TheVariants.{None as part_none, Ensemble as is_ensemble, Cluster as is_cluster, Probability as is_probability, Aerosol as is_aerosol}
use Rattle.product.specs.declared.blocks.IntervalEnd.{IntervalEnd}
use Rattle.product.specs.declared.blocks.Product.{Product}
use Rattle.layout.specs.Outcomes.{told}
use Rattle.layout.specs.declared.Refusal.{Refusal}
use Rattle.std.specs.Prelude.{Option, Some, None, Result}

-- ---- blocks, from the values at the front of a list

unfoldable pub to_process : List Value → Process
to_process vs =
    record {
      kind = natural_in (get_or vs 0 none);
      background = natural_in (get_or vs 1 none);
      identifier = natural_in (get_or vs 2 none);
      cutoff_hours = to32 (get_or vs 3 none);
      cutoff_minutes = natural_in (get_or vs 4 none);
    }

unfoldable pub to_scaled : List Value → Scaled
to_scaled vs = record { factor = to_signed (get_or vs 0 none); value = to_signed (get_or vs 1 none) }

unfoldable pub to_surface : List Value → Surface
to_surface vs = record { kind = natural_in (get_or vs 0 none); level = to_scaled (drop 1 vs) }

unfoldable pub to_interval : List Value → Option IntervalEnd
to_interval vs = by (get_or vs 0 none)
  where
    by : Value → Option IntervalEnd
    by none = None
    by missing = None
    by (which n) = None
    by (is year) =
        Some
        (record {
          year = nat_abs year;
          time = to_time vs 1;
          n = natural_in (get_or vs 6 none);
          missing_count = natural_in (get_or vs 7 none);
        })

interval-back : (x : Option IntervalEnd) → to_interval (interval_in x) ≡ x
unfolding to_interval interval_in end_in time_in
interval-back None = refl
interval-back (Some x) = refl

-- ---- the part that a tag names, from the values ahead of the generating process and behind the surfaces

unfoldable pub to_part : ℕ → List Value → List Value → Part
to_part zero ahead behind = part_none
to_part (suc zero) ahead behind =
    is_ensemble
    (record {
      kind = natural_in (get_or behind 0 none);
      perturbation = natural_in (get_or behind 1 none);
      forecasts = natural_in (get_or behind 2 none);
    })
to_part (suc (suc zero)) ahead behind =
    is_cluster
    (record {
      derived = natural_in (get_or behind 0 none);
      forecasts = natural_in (get_or behind 1 none);
      identifier = natural_in (get_or behind 2 none);
      high_control = natural_in (get_or behind 3 none);
      low_control = natural_in (get_or behind 4 none);
      clusters = natural_in (get_or behind 5 none);
      method = natural_in (get_or behind 6 none);
      latitude = natural_in (get_or behind 7 none);
      longitude = natural_in (get_or behind 8 none);
      radius = natural_in (get_or behind 9 none);
      nc = natural_in (get_or behind 10 none);
      deviation_factor = natural_in (get_or behind 11 none);
      deviation = natural_in (get_or behind 12 none);
      distance_factor = natural_in (get_or behind 13 none);
      distance = natural_in (get_or behind 14 none);
    })
to_part (suc (suc (suc zero))) ahead behind =
    is_probability
    (record {
      number = natural_in (get_or behind 0 none);
      probabilities = natural_in (get_or behind 1 none);
      kind = natural_in (get_or behind 2 none);
      lower = to_scaled (drop 3 behind);
      upper = to_scaled (drop 5 behind);
    })
to_part (suc (suc (suc (suc n)))) ahead behind =
    is_aerosol
    (record {
      kind = natural_in (get_or ahead 0 none);
      interval_of_sizes = natural_in (get_or ahead 1 none);
      first = to_scaled (drop 2 ahead);
      second = to_scaled (drop 4 ahead);
    })

part-back : (x : Part) (a b : List Value) → to_part (tag_in x) (ahead_in x ++ a) (behind_in x ++ b) ≡ x
unfolding to_part to_scaled tag_in ahead_in behind_in ensemble_in cluster_in probability_in aerosol_in scaled_in
part-back part_none a b = refl
part-back (is_ensemble x) a b = refl
part-back (is_cluster x) a b = refl
part-back (is_probability x) a b = simp back_signed
part-back (is_aerosol x) a b = simp back_signed

-- how many values these are, by the tag: of no part, an ensemble, a cluster, a probability, an aerosol
unfoldable pub ahead_count : ℕ → ℕ
ahead_count t = get_or (0 ∷ 0 ∷ 0 ∷ 0 ∷ 6 ∷ []) t 0

unfoldable pub behind_count : ℕ → ℕ
behind_count t = get_or (0 ∷ 3 ∷ 15 ∷ 7 ∷ 0 ∷ []) t 0

skips : (x : Part) → ((rest : List Value) → drop (ahead_count (tag_in x)) (ahead_in x ++ rest) ≡ rest) × ((rest : List Value) → drop (behind_count (tag_in x)) (behind_in x ++ rest) ≡ rest)
unfolding ahead_count behind_count tag_in ahead_in behind_in ensemble_in cluster_in probability_in aerosol_in scaled_in
skips part_none = ((λ rest. refl), (λ rest. refl))
skips (is_ensemble x) = ((λ rest. refl), (λ rest. refl))
skips (is_cluster x) = ((λ rest. refl), (λ rest. refl))
skips (is_probability x) = ((λ rest. refl), (λ rest. refl))
skips (is_aerosol x) = ((λ rest. refl), (λ rest. refl))

-- ---- the record that says these values

unfoldable pub to_product : List Value → Product
to_product vs =
    let t = natural_in (get_or vs 4 none) in
    let ahead = drop 7 vs in
    let common = drop (ahead_count t) ahead in
    let behind = drop 13 common in
    record {
      length = natural_in (get_or vs 0 none);
      number = natural_in (get_or vs 1 none);
      nv = natural_in (get_or vs 2 none);
      template = natural_in (get_or vs 3 none);
      parameter = record { category = natural_in (get_or vs 5 none); number = natural_in (get_or vs 6 none) };
      process = to_process common;
      forecast = record { unit = natural_in (get_or common 5 none); time = whole_in (get_or common 6 none) };
      first_surface = to_surface (drop 7 common);
      second_surface = to_surface (drop 10 common);
      part = to_part t ahead behind;
      interval = to_interval (drop (behind_count t) behind);
    }

pub product-back : (x : Product) → to_product (values_in x) ≡ x
unfolding to_product to_process to_surface to_scaled values_in parameter_in process_in forecast_in surface_in scaled_in
product-back x = simp ((skips x.part).0, (skips x.part).1, back32, back_signed, part-back, interval-back)

-- so two records that say the same are one record
pub same-record : (x y : Product) → values_in x ≡ values_in y → x ≡ y
same-record = told_back values_in to_product product-back

-- and two answers that say the same are one answer
pub determined : (s : List ℕ) (a b : Result Product Refusal) → told values_in a ≡ outcome₄ s → told values_in b ≡ outcome₄ s → a ≡ b
determined s = one_answer values_in to_product product-back (outcome₄ s)
