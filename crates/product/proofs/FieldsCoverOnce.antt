-- The fields of each template of section 4 stand where document 01 has them by octet numbers, whatever n, Nc and NV are, and cover octets 1 to its
-- total once.
-- Assumes nothing.
use Prim.Native.Nat.{ℕ}
use mathlib.Core.Path.{◌≡◌, refl, sym, ◌∙◌}
use mathlib.Core.List.{List, Memᴰ}
use Rattle.octets.specs.Octets.{be_at}
use Rattle.layout.specs.Fields.{after, runs, Covered}
use Rattle.layout.specs.Time.{time}
use Rattle.layout.proofs.Blocks.{covered, runs_from, runs-from}
use Rattle.product.specs.Blocks.{head, parameter, process, forecast, scaled, surface, common, ensemble, cluster, probability, aerosol, interval}
use Rattle.product.specs.Templates.{ahead, behind, front, time_ranges, lists, fields₄, ranges_at, fields_in}
use Rattle.product.specs.Table.{TemplateRow, templates₄, count_in, is_timed, octets₄}
use Rattle.product.specs.Accepted.{Follows₄}
use Rattle.product.proofs.FieldsByBlock.{total-is}
use Rattle.product.proofs.TableAgrees.{each_row}
use Rattle.product.proofs.AcceptedExactlyWhen.{follows-total}

-- every field of every template stands at its octets
stand₄ : (row : TemplateRow) → Memᴰ row templates₄ → (s : List ℕ) → runs (after 0 (fields_in row.part (is_timed row) s)) ≡ octets₄ row.number (count_in row.ranges s) (count_in row.members s) (be_at s 6 2)
unfolding fields₄ front head parameter ahead common process forecast surface scaled behind ensemble cluster probability aerosol time_ranges interval time lists ranges_at
stand₄ row m s = runs-from 1 _ ∙ each_row (λ r. runs_from 1 (fields_in r.part (is_timed r) s)) (λ r. octets₄ r.number (count_in r.ranges s) (count_in r.members s) (be_at s 6 2)) templates₄ refl row m

-- and they are the section's, each once
pub covered₄ : (row : TemplateRow) (s : List ℕ) → Follows₄ row s → Covered (after 0 (fields_in row.part (is_timed row) s)) (octets₄ row.number (count_in row.ranges s) (count_in row.members s) (be_at s 6 2)) s
covered₄ row s f =
    covered (fields_in row.part (is_timed row) s) _ s (stand₄ row f.listed s)
    (follows-total row s f ∙ sym (total-is row.part (is_timed row) _ _ _))
