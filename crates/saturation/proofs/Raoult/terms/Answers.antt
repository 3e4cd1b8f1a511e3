use borrow.Author.Tests.{tests}
use Rattle.std.proofs.Common.{arith, rules}
use Rattle.floats.proofs.Made.{filled}
use Rattle.saturation.proofs.Raoult.terms.Goals as goal

pub returns : goal.returns
returns g c = λ t h. filled _ t c.args.self.m.n (omega arith) c.from_fn.ensures.items (λ i y q k. search (h, rules, tests))
