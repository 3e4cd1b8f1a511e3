use borrow.Author.Tests.{tests}
use lib.Ieee.{lt}
use Rattle.std.proofs.Common.{rules}
use Rattle.floats.proofs.Chains.{all_of_range}
use Rattle.floats.specs.Arithmetic.{0f}
use Rattle.floats.specs.Vector.{at, places}
use Rattle.thermo_types.proofs.all_positive.Goals as goal

pub returns : goal.returns
returns c =
    all_of_range (λ i. lt 0f (at c.args.x.now i)) (places c.args.n) c.places.ensures c.all.ensures.ran
    (λ x q k. search (rules, tests)) (λ x q k. search (rules, tests))
