-- `numerics::power` meets its contract: the pattern's field is a + 1023 (`proofs/Powers.antt`).
use Rattle.std.proofs.Common.{◌≡◌, ◌*◌, ◌<◌, ℤ, SFits, pos, ◌+ℤ◌, arith, w64, to_z, of_z}
use lib.Signed.{mag}
use lib.Ieee.{nan_bits, binary64}
use Rattle.floats.proofs.Nan.{no_nan}
use Rattle.numerics.proofs.Powers.{bias, bias_in, field_back, power-is, no_nan_field}
use Rattle.numerics.proofs.power.Goals as goal

-- what the machine adds up, read back
module _ (a : ℤ) (range : SFits w64 a) (few : mag a < 1022) where
  is : to_z w64 (of_z w64 (to_z w64 (of_z w64 a) +ℤ pos 1023)) ≡ pos (bias a)
  is = field_back a range few

  in-range : (0 < bias a) × (bias a < 2046)
  in-range = bias_in a few

pub float_from_bits-result : goal.float_from_bits-result
float_from_bits-result c =
    let b = in-range c.args.a c.ranges.a c.requires in
    rw (is c.args.a c.ranges.a c.requires) (no_nan (nan_bits binary64 (bias c.args.a * 4503599627370496)) (no_nan_field (bias c.args.a) (omega arith)))

pub returns : goal.returns
returns c = rw (is c.args.a c.ranges.a c.requires) (power-is c.args.a c.requires)
