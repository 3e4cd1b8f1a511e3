use borrow.Author.Tests.{tests}
use lib.Ieee.{lt}
use Rattle.std.proofs.Common.{rules}
use mathlib.Core.Bool.{◌&&◌}
use Rattle.floats.specs.Arithmetic.{0f}
use Rattle.floats.specs.Small.{max_of}
use Rattle.floats.specs.Vector.{at}
use Rattle.floats.proofs.Chosen.{fold_of_chosen}
use Rattle.saturation.specs.Saturation.{gap_at, gap_of}
use Rattle.saturation.proofs.Raoult.largest_gap.Goals as goal

pub returns : goal.returns
unfolding gap_of
returns c =
    let x = c.args.x.now in let y = c.args.y.now in
    fold_of_chosen (λ i. lt 0f (at x i) && lt 0f (at y i)) (gap_at c.args.self.lg.now c.args.self.ps.now c.args.p x y) max_of 0f c.args.self.m.n
    c.filter.ensures.source c.filter.ensures.closure c.map-gaps.ensures.source c.map-gaps.ensures.closure c.fold.ensures.ran (λ x b q k. search (rules, tests)) (λ x y q k. search rules) (λ a x b q k. search rules)
