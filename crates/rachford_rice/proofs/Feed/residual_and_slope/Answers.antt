use borrow.Author.Tests.{tests}
use lib.Ieee.{lt}
use Rattle.std.proofs.Common.{rules}
use lib.Ieee.{Float}
use Rattle.floats.specs.Arithmetic.{◌⊕◌, ◌⊖◌, ◌⊗◌, ◌⊘◌, 0f, 1f}
use Rattle.floats.specs.Vector.{at}
use Rattle.floats.proofs.Chosen.{fold_of_chosen}
use Rattle.rachford_rice.specs.Rachford.{over}
use Rattle.rachford_rice.proofs.Laws.{residual-is, slope-is}
use Rattle.rachford_rice.proofs.Feed.residual_and_slope.Goals as goal

pub returns : goal.returns
returns c =
    let z = at c.args.self.z.now in let k = at c.args.self.k.now in let β = c.args.beta in let n = c.args.self.m.n in
    let e = fold_of_chosen (λ i. lt 0f (z i)) (λ i. (z i ⊗ (k i ⊖ 1f) ⊘ over k β i, z i ⊗ ((k i ⊖ 1f) ⊗ (k i ⊖ 1f)) ⊘ (over k β i ⊗ over k β i))) (λ (s t : Float × Float). (s.0 ⊕ t.0, s.1 ⊕ t.1)) (0f, 0f) n
    c.filter.ensures.source c.filter.ensures.closure c.map-terms.ensures.source c.map-terms.ensures.closure c.fold-residual.ensures.ran (λ x b q k. search (rules, tests)) (λ x y q k. search rules) (λ a x b q k. search rules) in
    record { residual_value = residual-is z k β n e; slope_value = slope-is z k β n e }
