use borrow.Author.Tests.{tests}
use Rattle.std.proofs.Common.{rules}
use Rattle.floats.proofs.Chains.{all_of_range}
use Rattle.floats.specs.Vector.{at, places}
use Rattle.floats.specs.Small.{is_finite}
use Rattle.thermo_types.proofs.all_finite.Goals as goal

pub returns : goal.returns
returns c =
    all_of_range (λ i. is_finite (at c.args.x.now i)) (places c.args.n) c.places.ensures c.all.ensures.ran
    (λ x q k. search (rules, tests)) (λ x q k. search (rules, tests))
