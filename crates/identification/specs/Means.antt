-- What is read out of a section 1, by name and octet: each field of the record is the meaning of its octets, by the template that the
-- section follows.
-- Assumes nothing.
use Rattle.std.specs.Prelude.{ℕ, ◌≡◌, List, ℤ, pos, ◌+ℤ◌, ◌*ℤ◌, Option, Some, None}
use Rattle.octets.specs.Octets.{be_at, sign_of}
use Rattle.layout.specs.Time.{MeansTime}
use Rattle.identification.specs.declared.Template.{Template}
use Rattle.identification.specs.declared.Template.TheVariants.{None as no_template, Calendar, Offset, CalendarAndOffset}
use Rattle.identification.specs.declared.Identification.{Identification}

-- octets 13-14: unsigned without an offset, signed with one
abbrev pub year_meant : Template → List ℕ → ℤ
year_meant no_template s = pos (be_at s 13 2)
year_meant Calendar s = pos (be_at s 13 2)
year_meant Offset s = sign_of 2 (be_at s 13 2)
year_meant CalendarAndOffset s = sign_of 2 (be_at s 13 2)

-- octets 22-23
abbrev pub number_meant : Template → List ℕ → Option ℕ
number_meant no_template s = None
number_meant Calendar s = Some (be_at s 22 2)
number_meant Offset s = Some (be_at s 22 2)
number_meant CalendarAndOffset s = Some (be_at s 22 2)

-- octet 24, in 1.0 and 1.2
abbrev pub calendar_meant : Template → List ℕ → Option ℕ
calendar_meant no_template s = None
calendar_meant Calendar s = Some (be_at s 24 1)
calendar_meant Offset s = None
calendar_meant CalendarAndOffset s = Some (be_at s 24 1)

-- signed: octets 24-25 of 1.1, and 25-26 of 1.2
abbrev pub offset_meant : Template → List ℕ → Option ℤ
offset_meant no_template s = None
offset_meant Calendar s = None
offset_meant Offset s = Some (sign_of 2 (be_at s 24 2))
offset_meant CalendarAndOffset s = Some (sign_of 2 (be_at s 25 2))

-- the year, and with an offset year + 10,000 x offset
abbrev pub real_year_meant : Template → List ℕ → ℤ
real_year_meant no_template s = pos (be_at s 13 2)
real_year_meant Calendar s = pos (be_at s 13 2)
real_year_meant Offset s = sign_of 2 (be_at s 13 2) +ℤ pos 10000 *ℤ sign_of 2 (be_at s 24 2)
real_year_meant CalendarAndOffset s = sign_of 2 (be_at s 13 2) +ℤ pos 10000 *ℤ sign_of 2 (be_at s 25 2)

pub record Means₁ (template : Template) (x : Identification) (s : List ℕ) : Type 0 where
  pub says-length : x.length ≡ be_at s 1 4
  pub says-number : x.number ≡ be_at s 5 1
  pub centre : x.centre ≡ be_at s 6 2
  pub sub-centre : x.sub_centre ≡ be_at s 8 2
  pub master-version : x.master_version ≡ be_at s 10 1
  pub local-version : x.local_version ≡ be_at s 11 1
  pub significance : x.significance ≡ be_at s 12 1
  pub year : x.year ≡ year_meant template s
  pub time : MeansTime x.time 15 s
  pub status : x.status ≡ be_at s 20 1
  pub data-type : x.data_type ≡ be_at s 21 1
  pub template-number : x.template ≡ number_meant template s
  pub calendar : x.calendar ≡ calendar_meant template s
  pub offset : x.offset ≡ offset_meant template s
  pub real-year : x.real_year ≡ real_year_meant template s
