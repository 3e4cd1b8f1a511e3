use Rattle.std.proofs.Common.{arith}
use Rattle.std.proofs.lemmas.Int.{ints}
use mir.ValLaws.{to_z-of_z}
use Rattle.numerics.proofs.exp_from.Goals as goal

pub returns : goal.returns
returns c = search (arith, ints, to_z-of_z, c.exp_digits.ensures.pos_value)
