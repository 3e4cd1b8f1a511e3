use borrow.Author.Tests.{tests}
use lib.Ieee.{lt}
use Rattle.std.proofs.Common.{rules}
use Rattle.floats.specs.Arithmetic.{◌⊖◌, 0f}
use Rattle.floats.specs.Small.{abs_of, max_of}
use Rattle.floats.specs.Vector.{at}
use Rattle.floats.proofs.Chosen.{fold_of_chosen}
use Rattle.saturation.specs.Saturation.{change_of}
use Rattle.saturation.proofs.Vapor.largest_change.Goals as goal

pub returns : goal.returns
unfolding change_of
returns c =
    fold_of_chosen (λ i. lt 0f (at c.args.self.y.now i)) (λ i. abs_of (at c.args.new.now i ⊖ at c.args.old.now i)) max_of 0f c.args.self.m.n
    c.filter.ensures.source c.filter.ensures.closure c.map-changes.ensures.source c.map-changes.ensures.closure c.fold.ensures.ran (λ x b q k. search (rules, tests)) (λ x y q k. search rules) (λ a x b q k. search rules)
