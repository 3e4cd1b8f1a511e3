-- `exports::zektonk_open_book` meets its contract. Assumes nothing.
use mathlib.Core.Path.{sym}
use native.Mathlib.Omega.{arith}
use Rattle.book.proofs.Accepted.{accepted}
use Rattle.exports.proofs.zektonk_open_book.Goals as goal

pub overflow_add-result : goal.overflow_add-result
overflow_add-result c = omega (arith, (accepted _ (sym c.in-Ok.ensures)).few)
