use borrow.Author.Tests.{tests}
use lib.Ieee.{lt}
use Rattle.std.proofs.Common.{rules}
use Rattle.floats.specs.Arithmetic.{◌⊕◌, ◌⊖◌, ◌⊗◌, ◌⊘◌, 0f, 1f}
use Rattle.floats.specs.Vector.{at}
use Rattle.floats.proofs.Chosen.{fold_of_chosen}
use Rattle.rachford_rice.specs.Rachford.{over, residual_of}
use Rattle.rachford_rice.proofs.Feed.residual.Goals as goal

pub returns : goal.returns
unfolding residual_of
returns c =
    let z = at c.args.self.z.now in let k = at c.args.self.k.now in
    fold_of_chosen (λ i. lt 0f (z i)) (λ i. z i ⊗ (k i ⊖ 1f) ⊘ over k c.args.beta i) (λ s t. s ⊕ t) 0f c.args.self.m.n
    c.filter.ensures.source c.filter.ensures.closure c.map-terms.ensures.source c.map-terms.ensures.closure c.fold.ensures.ran (λ x b q k. search (rules, tests)) (λ x y q k. search rules) (λ a x b q k. search rules)
