-- `book::carry` meets its contract. Assumes nothing.
use Rattle.std.proofs.Common.{refl, arith}
use Rattle.book.proofs.Bits.{carry_finite}
use Rattle.book.proofs.carry.Goals as goal

pub returns : goal.returns
returns c = carry_finite _ _ (omega arith) refl
