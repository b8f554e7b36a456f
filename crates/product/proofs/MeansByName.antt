-- What is read out of a section 4 is by name and octet what document 01 has: it follows from the values of the fields in their order.
-- Assumes nothing.
use Prim.Native.Nat.{ℕ, ◌+◌, ◌-◌}
use native.Mathlib.Omega.{arith}
use mathlib.Core.Path.{◌≡◌, refl, ap, sym, subst, ◌∙◌}
use mathlib.Core.List.{List, [], ◌∷◌, ◌++◌, Memᴰ}
use mathlib.Core.Bool.{Bool, true, false, cond}
use lib.ListN.{drop}
use Rattle.octets.specs.Octets.{be_at, sign_of}
use Rattle.layout.specs.Fields.{Value, none, which, signed, or_missing, means, after, placed, values_of}
use Rattle.layout.specs.Missing.{unless_missing}
use Rattle.layout.specs.Time.{time}
use Rattle.layout.proofs.Untold.{means32, means_signed}
use Rattle.product.specs.Blocks.{head, parameter, process, forecast, scaled, surface, common, ensemble, cluster, probability, aerosol, interval, values_in}
use Rattle.product.specs.Templates.{ahead, behind, part_tag, front_end, part_end, values₄}
use Rattle.product.specs.Table.{CountAt, no_count, at_octet, TemplateRow, templates₄, is_timed}
use Rattle.product.specs.Means.{MeansScaled, MeansSurface, MeansPart, none as means-none, ensemble as means-ensemble, cluster as means-cluster, probability as means-probability, aerosol as means-aerosol, MeansInterval, point, ends, Means₄}
use Rattle.product.specs.declared.templates.PartKind.{PartKind}
use Rattle.product.specs.declared.templates.PartKind.TheVariants.{None as no_part, Ensemble, Cluster, Probability, Aerosol}
use Rattle.product.specs.declared.blocks.Product.{Product}
use Rattle.product.proofs.FieldsByBlock.{values-are}
use Rattle.product.proofs.TableAgrees.{table-process, table-count}
use Rattle.product.proofs.AnswersDetermined.{to_process, to_scaled, to_surface, to_interval, to_part, ahead_count, behind_count, to_product, product-back}

-- ---- the blocks, read back from the values of their fields

-- where the octets of a field are numbered otherwise
octets-at : (s : List ℕ) (width j k : ℕ) → j ≡ k → be_at s j width ≡ be_at s k width
octets-at s width j k e = ap (λ (n : ℕ). be_at s n width) e

-- what a scale factor and a scaled value say
abbrev signed_at : ℕ → ℕ → List ℕ → Value
signed_at first width s = means (or_missing signed) width (be_at s first width)

means-scaled : (f v first : ℕ) (s : List ℕ) (rest : List Value) → f ≡ first → v ≡ first + 1 → MeansScaled (to_scaled (signed_at f 1 s ∷ signed_at v 4 s ∷ rest)) first s
unfolding to_scaled
means-scaled f v first s rest e g =
    record { factor = means_signed 1 (be_at s f 1) ∙ rw e; value = means_signed 4 (be_at s v 4) ∙ rw g }

-- the part that the template has, ahead of the generating process or behind the surfaces
means-part : (kind : PartKind) (s : List ℕ) (a b : List Value) → MeansPart s kind (to_part (part_tag kind) (values_of (after 11 (ahead kind)) s ++ a) (values_of (after (front_end kind + 23) (behind kind)) s ++ b))
unfolding to_part values_of placed ahead behind ensemble cluster probability aerosol scaled
means-part no_part s a b = means-none
means-part Ensemble s a b = means-ensemble _ (record { kind = refl; perturbation = refl; forecasts = refl })
means-part Cluster s a b =
    means-cluster _
    (record {
      derived = refl;
      forecasts = refl;
      identifier = refl;
      high-control = refl;
      low-control = refl;
      clusters = refl;
      method = refl;
      latitude = refl;
      longitude = refl;
      radius = refl;
      nc = refl;
      deviation-factor = refl;
      deviation = refl;
      distance-factor = refl;
      distance = refl;
    })
means-part Probability s a b =
    means-probability _
    (record {
      number = refl;
      probabilities = refl;
      kind = refl;
      lower = means-scaled 38 39 38 s _ refl refl;
      upper = means-scaled 43 44 43 s _ refl refl;
    })
means-part Aerosol s a b =
    means-aerosol _
    (record {
      kind = refl;
      interval-of-sizes = refl;
      first = means-scaled 15 16 15 s _ refl refl;
      second = means-scaled 20 21 20 s _ refl refl;
    })

-- the end of the interval, which follows octet `end`: n stands 8 octets after it
means-interval : (timed : Bool) (end : ℕ) (s : List ℕ) → MeansInterval s (cond timed (at_octet (end + 8)) no_count) (to_interval (cond timed (values_of (after end interval) s) (none ∷ [])))
unfolding to_interval values_of placed interval time
means-interval true end s =
    let p = end + 8 in
    ends p _
    (record {
      year = octets-at s 2 (end + 1) (p - 7) (omega arith);
      time = record {
        month = octets-at s 1 (end + 3) (p - 5) (omega arith);
        day = octets-at s 1 (end + 4) (p - 5 + 1) (omega arith);
        hour = octets-at s 1 (end + 5) (p - 5 + 2) (omega arith);
        minute = octets-at s 1 (end + 6) (p - 5 + 3) (omega arith);
        second = octets-at s 1 (end + 7) (p - 5 + 4) (omega arith);
      };
      n = refl;
      missing-count = octets-at s 4 (end + 9) (p + 1) (omega arith);
    })
means-interval false end s = point

-- the values of a part are as many as its kind has
skips : (kind : PartKind) (s : List ℕ) → ((rest : List Value) → drop (ahead_count (part_tag kind)) (values_of (after 11 (ahead kind)) s ++ rest) ≡ rest) × ((rest : List Value) → drop (behind_count (part_tag kind)) (values_of (after (front_end kind + 23) (behind kind)) s ++ rest) ≡ rest)
unfolding ahead_count behind_count values_of placed ahead behind ensemble cluster probability aerosol scaled
skips no_part s = ((λ rest. refl), (λ rest. refl))
skips Ensemble s = ((λ rest. refl), (λ rest. refl))
skips Cluster s = ((λ rest. refl), (λ rest. refl))
skips Probability s = ((λ rest. refl), (λ rest. refl))
skips Aerosol s = ((λ rest. refl), (λ rest. refl))

-- ---- the record

module _ (row : TemplateRow) (m : Memᴰ row templates₄) (s : List ℕ) where
  abbrev end : ℕ
  end = front_end row.part

  -- a field j octets after the octet that the generating process follows, by document 01's number
  moved_at : (width j k : ℕ) → 11 + j ≡ k → be_at s (end + j) width ≡ be_at s (k + row.moved) width
  moved_at width j k e = octets-at s width (end + j) (k + row.moved) (omega (arith, table-process row m))

  surface-at : (j k : ℕ) (rest : List Value) → 11 + j ≡ k → MeansSurface (to_surface (values_of (placed end j surface) s ++ rest)) (k + row.moved) s
  unfolding to_surface values_of placed surface scaled
  surface-at j k rest e =
      let follows = table-process row m in
      record {
        kind = moved_at 1 j k e;
        level = means-scaled (end + (j + 1)) (end + (j + 1 + 1)) (k + row.moved + 1) s rest (omega arith) (omega arith);
      }

  -- the end of the interval, where there is one
  abbrev end-values : List Value
  end-values = cond (is_timed row) (values_of (after (part_end row.part) interval) s) (none ∷ [])

  -- of the values of the fields, block by block
  means-blocks : Means₄ row (to_product (values_of (after 0 head) s ++ (which (part_tag row.part) ∷ (values_of (after 9 parameter) s ++ (values_of (after 11 (ahead row.part)) s ++ (values_of (after end common) s ++ (values_of (after (end + 23) (behind row.part)) s ++ end-values))))))) s
  unfolding to_product to_process values_of placed head parameter common process forecast surface scaled
  means-blocks =
      rw ((skips row.part s).0, (skips row.part s).1)
      (record {
        says-length = refl;
        says-number = refl;
        nv = refl;
        template = refl;
        parameter-category = refl;
        parameter-number = refl;
        process-kind = moved_at 1 1 12 refl;
        process-background = moved_at 1 2 13 refl;
        process-identifier = moved_at 1 3 14 refl;
        cutoff-hours = means32 2 (be_at s (end + 4) 2) ∙ ap (unless_missing 2) (moved_at 2 4 15 refl);
        cutoff-minutes = moved_at 1 6 17 refl;
        forecast-unit = moved_at 1 7 18 refl;
        forecast-time = ap (sign_of 4) (moved_at 4 8 19 refl);
        first-surface = surface-at 12 23 _ refl;
        second-surface = surface-at 18 29 _ refl;
        part = means-part row.part s _ _;
        interval = subst (λ (c : CountAt). MeansInterval s c (to_interval end-values)) (sym (table-count row m)) (means-interval (is_timed row) (part_end row.part) s);
      })

  pub means₄ : (x : Product) → values_in x ≡ values₄ row.part (is_timed row) s → Means₄ row x s
  means₄ x e =
      subst (λ (y : Product). Means₄ row y s) (ap to_product (sym (e ∙ values-are row.part (is_timed row) _ _ _ s)) ∙ product-back x) means-blocks
