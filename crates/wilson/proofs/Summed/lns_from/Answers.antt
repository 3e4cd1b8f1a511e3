use native.Mathlib.Omega.{arith}
use Rattle.excess.proofs.Steps.{turning-start, turning-next, turning-done}
use Rattle.wilson.specs.Sums.{wilson_from}
use Rattle.wilson.proofs.Summed.lns_from.Goals as goal

pub loop-w-preserved : goal.loop-w-preserved
unfolding wilson_from
loop-w-preserved g c =
    let t = c.loop-w.invariant in
    turning-next c.loop-w.w c.loop-w-test.true (rw (← t.left c.loop-w.w (omega arith) c.loop-w-test.true) c.ln_gamma_from.ensures) t
