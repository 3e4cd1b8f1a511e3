use Rattle.liquid.proofs.Ways.{terms_start, pair-next}
use Rattle.liquid.proofs.sum_pairs.Goals as goal

pub loop-i-init : goal.loop-i-init
loop-i-init c = terms_start _ _ _ _

pub loop-i-preserved : goal.loop-i-preserved
loop-i-preserved c =
    pair-next _ _ _ _ c.loop-i.i c.requires c.exp_two-p.ensures c.exp_two-q.ensures c.exp_two-r.ensures c.add_term-z.ensures c.add_term-z-in-loop-i.ensures c.loop-i.invariant
