use borrow.Author.Tests.{tests}
use Rattle.std.proofs.Common.{arith, rules}
use Rattle.floats.proofs.Made.{filled}
use Rattle.tp_flash.proofs.Feed.ln_pressures.Goals as goal

pub returns : goal.returns
returns c = filled _ _ _ (omega arith) c.from_fn.ensures.items (λ i y q k. search (rules, tests))
