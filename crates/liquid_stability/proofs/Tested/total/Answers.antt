use borrow.Author.Tests.{tests}
use lib.Ieee.{lt}
use Rattle.std.proofs.Common.{rules}
use Rattle.floats.specs.Arithmetic.{◌⊕◌, 0f}
use Rattle.floats.specs.Vector.{at}
use Rattle.floats.proofs.Chosen.{fold_of_chosen}
use Rattle.liquid_stability.proofs.Tested.total.Goals as goal

pub returns : goal.returns
returns c =
    fold_of_chosen (λ i. lt 0f (at c.args.self.x.now i)) (at c.args.big.now) (λ s t. s ⊕ t) 0f c.args.self.m.n
    c.filter.ensures.source c.filter.ensures.closure c.map-present.ensures.source c.map-present.ensures.closure c.fold.ensures.ran (λ x b q k. search (rules, tests)) (λ x y q k. search rules) (λ a x b q k. search rules)
