use native.Mathlib.Omega.{arith}
use Rattle.floats.specs.Fold.{fold_to}
use Rattle.jet.proofs.Sums.{sum_jet_turn}
use Rattle.excess.proofs.Steps.{turning-next}
use Rattle.nrtl.specs.Columns.{ln_from}
use Rattle.nrtl.proofs.Summed.lns_from.Goals as goal

pub loop-w-preserved : goal.loop-w-preserved
unfolding ln_from fold_to
loop-w-preserved g c = turning-next c.loop-w.w c.loop-w-test.true c.two_in.ensures c.loop-w.invariant

pub loop-w-2-preserved : goal.loop-w-2-preserved
unfolding ln_from
loop-w-2-preserved g c =
    let t = c.loop-w-2.invariant in
    turning-next c.loop-w-2.w c.loop-w-2-test.true (sum_jet_turn _ _ _ c.add.ensures c.term.ensures (t.left c.loop-w-2.w (omega arith) c.loop-w-2-test.true)) t
