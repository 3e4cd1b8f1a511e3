use native.Mathlib.Omega.{arith}
use Rattle.jet.proofs.Sums.{sum_jet_turn}
use Rattle.excess.proofs.Steps.{turning-next}
use Rattle.wilson.specs.Sums.{row_s}
use Rattle.wilson.proofs.Liquid.row_sums.Goals as goal

pub loop-w-preserved : goal.loop-w-preserved
unfolding row_s
loop-w-preserved g c =
    let t = c.loop-w.invariant in
    turning-next c.loop-w.w c.loop-w-test.true (sum_jet_turn _ _ _ c.add.ensures c.part.ensures (t.left c.loop-w.w (omega arith) c.loop-w-test.true)) t
