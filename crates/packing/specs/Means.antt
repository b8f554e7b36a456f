-- What is read out of sections 5 and 7, by name and octet: each field of the record is the meaning of its octets.
-- Assumes nothing.
use Rattle.std.specs.Prelude.{ℕ, ◌≡◌, List}
use Rattle.octets.specs.Octets.{be_at, sign_of}
use Rattle.packing.specs.declared.Packing.{Packing}
use Rattle.packing.specs.declared.DataSection.{DataSection}

pub record Means₅ (x : Packing) (s : List ℕ) : Type 0 where
  pub says-length : x.length ≡ be_at s 1 4
  pub says-number : x.number ≡ be_at s 5 1
  pub values : x.values ≡ be_at s 6 4
  pub template : x.template ≡ be_at s 10 2
  pub reference : x.reference ≡ be_at s 12 4
  pub binary-scale : x.binary_scale ≡ sign_of 2 (be_at s 16 2)
  pub decimal-scale : x.decimal_scale ≡ sign_of 2 (be_at s 18 2)
  pub bits : x.bits ≡ be_at s 20 1
  pub value-type : x.value_type ≡ be_at s 21 1

pub record Means₇ (x : DataSection) (s : List ℕ) : Type 0 where
  pub says-length : x.length ≡ be_at s 1 4
  pub says-number : x.number ≡ be_at s 5 1
