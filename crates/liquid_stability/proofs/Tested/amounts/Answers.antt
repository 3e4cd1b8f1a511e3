use borrow.Author.Tests.{tests}
use Rattle.std.proofs.Common.{arith, rules}
use Rattle.floats.proofs.Made.{filled}
use Rattle.liquid_stability.specs.Steps.{amounts_of}
use Rattle.liquid_stability.proofs.Tested.amounts.Goals as goal

pub returns : goal.returns
unfolding amounts_of
returns c = filled _ _ c.args.self.m.n (omega arith) c.from_fn.ensures.items (λ i y q k. search (rules, tests))
