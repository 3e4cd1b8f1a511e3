use borrow.Author.Tests.{tests}
use Rattle.std.proofs.Common.{arith, rules}
use Rattle.floats.specs.Arithmetic.{◌⊗◌}
use Rattle.floats.specs.Vector.{at}
use Rattle.floats.proofs.Made.{filled}
use Rattle.rachford_rice.proofs.Feed.vapor_parts.Goals as goal

pub returns : goal.returns
returns c = let s = c.args.self in filled _ (λ i. at c.args.x.now i ⊗ at s.k.now i) s.m.n (omega arith) c.from_fn.ensures.items (λ i y q k. search (rules, tests))
