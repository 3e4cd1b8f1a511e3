use borrow.Author.Tests.{tests}
use Rattle.std.proofs.Common.{arith, rules}
use Rattle.floats.specs.Arithmetic.{◌⊘◌}
use Rattle.floats.specs.Vector.{at, places}
use Rattle.floats.proofs.Made.{filled}
use Rattle.thermo_types.proofs.divided.Goals as goal

pub returns : goal.returns
returns c = filled _ (λ i. at c.args.x.now i ⊘ c.args.s) (places c.args.n) (omega arith) c.from_fn.ensures.items (λ i y q k. search (rules, tests))
