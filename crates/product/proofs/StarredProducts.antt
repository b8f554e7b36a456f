-- Document 01's starred sections 4 hold of the definitions, and those that are short or long.
-- Assumes nothing.
use mathlib.Core.Path.{refl}
use Rattle.octets.specs.Octets.{part, be, be_at, digits}
use Rattle.layout.specs.Fields.{between, placed, lowest_bad, values_of}
use Rattle.layout.specs.Outcomes.{first_of, opening_reasons, total_reasons, fitting_reasons, template_reasons}
use Rattle.layout.specs.Examples.{AllAgree}
use Rattle.layout.specs.Time.{time}
use Rattle.product.specs.Blocks.{head, parameter, process, forecast, scaled, surface, common, ensemble, cluster, probability, interval}
use Rattle.product.specs.Templates.{template_of, ahead, behind, front, time_ranges, lists, fields₄, ranges_end, total, ranges_at}
use Rattle.product.specs.Section4.{as_template, by_template, outcome₄}
use Rattle.product.specs.Examples.{starred_products, short_or_long₄}

pub products-agree : AllAgree starred_products × AllAgree short_or_long₄
unfolding AllAgree part be be_at digits between placed lowest_bad values_of first_of opening_reasons total_reasons fitting_reasons template_reasons time head parameter process forecast scaled surface common ensemble cluster probability interval template_of ahead behind front time_ranges lists fields₄ ranges_end total ranges_at as_template by_template outcome₄
products-agree = ((refl, (refl, (refl, (refl, (refl, (refl, tt)))))), (refl, (refl, (refl, (refl, (refl, tt))))))
