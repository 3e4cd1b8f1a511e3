-- `jet::lay` meets its contract. Assumes nothing.
use mathlib.Core.Path.{refl, ◌∙◌, ap}
use native.Mathlib.Omega.{arith}
use Rattle.floats.specs.Fold.{fold_to}
use Rattle.floats.proofs.Folds.{fold_turn}
use Rattle.jet.specs.Lanes.{triangle, lane_in, laid_border}
use Rattle.jet.proofs.Lanes.{triangle_next, triangle-below}
use Rattle.jet.proofs.lay.Goals as goal

pub loop-i-init : goal.loop-i-init
unfolding fold_to triangle
loop-i-init g c = (refl, refl)

pub lay_border-requires : goal.lay_border-requires
lay_border-requires g c =
    let (q, _) = c.loop-i.invariant in
    let (n, k, few) = c.requires in
    let below = triangle-below c.loop-i.i c.args.n (omega arith) in
    (omega (arith, few), (omega (arith, n), omega (arith, q, k, below)))

pub overflow_add-q : goal.overflow_add-q
overflow_add-q g c =
    let (q, _) = c.loop-i.invariant in
    let (n, k, few) = c.requires in
    let below = triangle-below c.loop-i.i c.args.n (omega arith) in
    omega (arith, q, k, below, g.K.fits)

pub loop-i-preserved : goal.loop-i-preserved
loop-i-preserved g c =
    let (q, l) = c.loop-i.invariant in
    let F = lane_in (g.P.Pairs.beside_of c.args.pairs.now) (g.P.Pairs.exponent_of c.args.pairs.now) (g.S.Source.six c.args.source.now) in (
      omega (arith, q, triangle_next c.loop-i.i),
      fold_turn (λ i l. laid_border F i (triangle i) i l) c.args.lanes.now c.loop-i.i (c.lay_border.ensures ∙ ap (λ q. laid_border F c.loop-i.i q c.loop-i.i c.loop-i.lanes) q) l,
    )
