use borrow.Author.Tests.{tests}
use lib.Ieee.{Float, lt}
use Rattle.std.proofs.Common.{arith, rules, ap, ℕ}
use Rattle.floats.specs.Arithmetic.{◌⊕◌, ◌⊗◌, 0f}
use Rattle.floats.specs.Vector.{at}
use Rattle.floats.proofs.Chosen.{fold_of_chosen, part_of_chosen}
use Rattle.saturation_temperature.specs.Boiling.{weight_sum, weight_slope}
use Rattle.saturation_temperature.proofs.Feed.weigh.Goals as goal

pub returns : goal.returns
unfolding weight_sum weight_slope
returns c =
    let z = at c.args.self.z.now in let n = c.args.self.m.n in let g = at c.exps-gamma.result in
    let slope : ℕ → Float = λ i. at c.args.sl.now i ⊕ at c.args.dps.now i in
    let v : ℕ → Float × Float = λ i. (z i ⊗ g i ⊗ at c.args.ps.now i, z i ⊗ g i ⊗ at c.args.ps.now i ⊗ slope i) in
    let w : Float × Float → Float × Float → Float × Float = λ s t. (s.0 ⊕ t.0, s.1 ⊕ t.1) in
    let e = fold_of_chosen (λ i. lt 0f (z i)) v w (0f, 0f) n c.filter.ensures.source c.filter.ensures.closure c.map-terms.ensures.source c.map-terms.ensures.closure c.fold.ensures.ran
    (λ x b q k. search (rules, tests)) (λ x y q k. search rules) (λ a x b q k. search rules) in
    record {
      sum = part_of_chosen (λ i. lt 0f (z i)) v w (0f, 0f) (λ s. s.0) _ n e (λ i a l t. ap (λ (γ : Float). a.0 ⊕ z i ⊗ γ ⊗ at c.args.ps.now i) (c.exps-gamma.ensures i (omega arith)));
      slopes = part_of_chosen (λ i. lt 0f (z i)) v w (0f, 0f) (λ s. s.1) _ n e (λ i a l t. ap (λ (γ : Float). a.1 ⊕ z i ⊗ γ ⊗ at c.args.ps.now i ⊗ slope i) (c.exps-gamma.ensures i (omega arith)));
    }
