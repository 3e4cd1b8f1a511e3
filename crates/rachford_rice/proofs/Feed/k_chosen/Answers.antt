use borrow.Author.Tests.{tests}
use lib.Ieee.{lt}
use Rattle.std.proofs.Common.{rules}
use Rattle.floats.specs.Arithmetic.{0f}
use Rattle.floats.specs.Vector.{at}
use Rattle.floats.proofs.Chosen.{fold_of_chosen}
use Rattle.rachford_rice.proofs.Feed.k_chosen.Goals as goal

pub returns : goal.returns
returns g c = λ f h.
    fold_of_chosen (λ i. lt 0f (at c.args.self.z.now i)) (at c.args.self.k.now) f c.args.first c.args.self.m.n
    c.filter.ensures.source c.filter.ensures.closure c.map-ratios.ensures.source c.map-ratios.ensures.closure c.fold.ensures.ran (λ x b q k. search (rules, tests)) (λ x y q k. search rules) (λ a x b q k. search rules)
