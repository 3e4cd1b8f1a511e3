use borrow.Author.Tests.{tests}
use Rattle.std.proofs.Common.{arith, rules}
use Rattle.floats.proofs.Made.{filled}
use Rattle.liquid_stability.proofs.Tested.composition.Goals as goal

pub returns : goal.returns
returns c = filled _ _ c.args.self.m.n (omega arith) c.from_fn.ensures.items (λ i y q k. search (rules, tests))
