use borrow.Author.Tests.{tests}
use Rattle.std.proofs.Common.{arith, rules}
use Rattle.floats.specs.Vector.{at}
use Rattle.floats.proofs.Made.{filled}
use Rattle.rachford_rice.specs.Rachford.{liquid_part}
use Rattle.rachford_rice.proofs.Feed.liquid_parts.Goals as goal

pub returns : goal.returns
unfolding liquid_part
returns c = let s = c.args.self in filled _ (liquid_part (at s.z.now) (at s.k.now) s.m.n c.args.beta) s.m.n (omega arith) c.from_fn.ensures.items (λ i y q k. search (rules, tests))
