-- `numerics::count` meets its contract (`proofs/Guess.antt`).
use Rattle.std.proofs.Common.{◌+◌}
use lib.Ieee.{nan_bits, binary64}
use Rattle.floats.proofs.Nan.{no_nan}
use Rattle.numerics.proofs.Guess.{count-is, count-no_nan}
use Rattle.numerics.proofs.count.Goals as goal

pub float_from_bits-result : goal.float_from_bits-result
float_from_bits-result c = no_nan (nan_bits binary64 (c.args.u + 4841369599423283200)) (count-no_nan c.args.u c.requires)

pub returns : goal.returns
returns c = count-is c.args.u c.requires
