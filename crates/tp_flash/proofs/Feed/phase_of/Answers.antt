use borrow.Author.Tests.{tests}
use Rattle.std.proofs.Common.{arith, rules}
use Rattle.floats.proofs.Made.{filled}
use Rattle.tp_flash.proofs.Laws.{phase_is}
use Rattle.tp_flash.proofs.Feed.phase_of.Goals as goal

pub returns : goal.returns
returns c = phase_is c.args.self.z.now c.args.l.now _ (omega arith) (filled _ _ _ (omega arith) c.from_fn-w.ensures.items (λ i y q k. search (rules, tests))) c.normalize.ensures
