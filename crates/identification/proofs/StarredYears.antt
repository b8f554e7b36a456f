-- Document 01's starred years hold of the definitions, and the sections 1 that are short or long.
-- Assumes nothing.
use mathlib.Core.Path.{refl}
use Rattle.octets.specs.Octets.{part, be, be_at, digits, sign_of}
use Rattle.layout.specs.Fields.{between, placed, values_of, lowest_bad}
use Rattle.layout.specs.Outcomes.{first_of, opening_reasons, total_reasons, fitting_reasons, template_reasons}
use Rattle.layout.specs.Examples.{AllAgree}
use Rattle.layout.specs.Time.{time}
use Rattle.identification.specs.Section1.{origin, status_and_type, fields₁, real_year_at, values₁, as_template, by_number, by_template, outcome₁}
use Rattle.identification.specs.Examples.{starred_years, short_or_long₁}

pub years-agree : AllAgree starred_years × AllAgree short_or_long₁
unfolding AllAgree part be be_at digits sign_of between placed values_of lowest_bad first_of opening_reasons total_reasons fitting_reasons template_reasons time origin status_and_type fields₁ real_year_at values₁ as_template by_number by_template outcome₁
years-agree = ((refl, (refl, (refl, tt))), (refl, (refl, (refl, (refl, tt)))))
