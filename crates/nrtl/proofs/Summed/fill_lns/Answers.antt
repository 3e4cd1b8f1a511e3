use native.Mathlib.Omega.{arith}
use Rattle.excess.proofs.Steps.{gammas_more, gammas_done}
use Rattle.nrtl.proofs.Summed.fill_lns.Goals as goal

pub loop-i-preserved : goal.loop-i-preserved
loop-i-preserved c =
    let k = c.keep_lns.ensures in
    record { fours = omega arith; within = omega arith; lns = gammas_more _ _ 4 _ c.lns_from-l.ensures k.values k.slopes c.loop-i.invariant.lns }

pub returns-then-i-self : goal.returns-then-i-self
returns-then-i-self c =
    let k = c.keep_lns-then-i-self.ensures in
    gammas_done _ _ _ (omega arith) (gammas_more _ _ 2 _ c.lns_from-l-then-i-self.ensures k.values k.slopes c.loop-i.invariant.lns)
