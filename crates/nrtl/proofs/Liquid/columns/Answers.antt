use native.Mathlib.Omega.{arith}
use Rattle.jet.proofs.Sums.{sum_jet_turn}
use Rattle.excess.proofs.Steps.{turning-next}
use Rattle.nrtl.specs.Columns.{col_s}
use Rattle.nrtl.proofs.Liquid.columns.Goals as goal

pub loop-w-preserved : goal.loop-w-preserved
unfolding col_s
loop-w-preserved g c =
    let t = c.loop-w.invariant in
    turning-next c.loop-w.w c.loop-w-test.true (sum_jet_turn _ _ _ c.add.ensures c.part.ensures (t.left c.loop-w.w (omega arith) c.loop-w-test.true)) t
