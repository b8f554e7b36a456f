-- Document 01's starred grid holds of the definitions, and the grids that are short or long, and those with offset rows.
-- Assumes nothing.
use mathlib.Core.Path.{refl}
use Rattle.octets.specs.Octets.{part, be, be_at, digits, sign_of}
use Rattle.layout.specs.Fields.{between, placed, values_of, lowest_bad}
use Rattle.layout.specs.Outcomes.{first_of, if_read, opening_reasons, total_reasons, fitting_reasons, template_reasons}
use Rattle.layout.specs.Examples.{AllAgree}
use Rattle.grid.specs.Blocks.{has_list, grid_head, earth_size, earth, counts, corners, common, pole, poles}
use Rattle.grid.specs.Templates.{fields₃, list_count, values₃, template_numbered}
use Rattle.grid.specs.Agreement.{missing_with, agreed_without_list, agreed_with_list, agreed}
use Rattle.grid.specs.Points.{sum_of, points_without_list, points_of}
use Rattle.grid.specs.Section3.{as_template, outcome₃}
use Rattle.grid.specs.Views.{list_span}
use Rattle.grid.specs.OffsetRows.{points_before, as_template_before, outcome_before}
use Rattle.grid.specs.Examples.{example_section, starred_grids, short_or_long₃, offset_rows₃}

pub grids-agree : AllAgree starred_grids × AllAgree short_or_long₃ × AllAgree offset_rows₃
unfolding AllAgree example_section digits part be be_at sign_of between placed values_of lowest_bad first_of if_read opening_reasons total_reasons fitting_reasons template_reasons has_list grid_head earth_size earth counts corners common pole poles fields₃ missing_with agreed_without_list agreed_with_list agreed list_count sum_of points_without_list points_of values₃ as_template template_numbered outcome₃ list_span points_before as_template_before outcome_before
grids-agree = ((refl, (refl, tt)), (refl, (refl, (refl, (refl, (refl, (refl, (refl, (refl, (refl, tt))))))))), (refl, (refl, (refl, (refl, (refl, (refl, (refl, (refl, (refl, (refl, (refl, (refl, (refl, (refl, (refl, tt))))))))))))))))
