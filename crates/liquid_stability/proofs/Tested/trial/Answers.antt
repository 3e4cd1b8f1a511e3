use Rattle.outcome.proofs.Exits.{met_reason}
use Rattle.liquid_stability.proofs.Laws.{trial-start, trial_out, trial-refused, trial-found, trial-more}
use Rattle.liquid_stability.proofs.Tested.trial.Goals as goal

pub loop-done-init : goal.loop-done-init
loop-done-init g c = trial-start _ _ _ _ _ _ _ _ _ c.start-ln_w.ensures

pub returns-in_err-found : goal.returns-in_err-found
returns-in_err-found g c = rw (met_reason g.E.Reason.said _ _ c.from_residual.ensures.1)
    (trial-refused _ _ _ _ _ _ _ _ _ c.loop-done.invariant c.loop-done-test.true c.begin.ensures c.in_err-found.ensures)

pub returns-in-Break : goal.returns-in-Break
returns-in-Break g c = trial-found _ _ _ _ _ _ _ _ _ c.loop-done.invariant c.loop-done-test.true c.begin.ensures c.in_ok-found.ensures c.in-Break.is

pub loop-done-preserved : goal.loop-done-preserved
loop-done-preserved g c = trial-more _ _ _ _ _ _ _ _ _ c.loop-done.invariant c.loop-done-test.true c.begin.ensures c.in_ok-found.ensures c.in-Continue.is

pub returns : goal.returns
returns g c = rw (g.met.E.Reason.of_refusal _ _ c.from.ensures) (trial_out _ _ _ _ _ _ _ _ _ c.loop-done.invariant c.loop-done-test.false)
