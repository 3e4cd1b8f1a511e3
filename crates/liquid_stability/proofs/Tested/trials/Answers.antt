use native.Mathlib.Numerals.{add-one}
use native.Mathlib.Omega.{arith}
use Rattle.outcome.proofs.Exits.{met_reason}
use Rattle.liquid_stability.specs.Stability.{no_trials, with_trial}
use Rattle.liquid_stability.proofs.Laws.{trials-none, trials-refused, trials_skip, trials-more}
use Rattle.liquid_stability.proofs.Tested.trials.Goals as goal
use Rattle.liquid_stability.proofs.Tested.trials.Goals.{then-self-j+in_ok-found, else-self-j}

pub loop-j-init : goal.loop-j-init
unfolding no_trials
loop-j-init g c = rw c.no_trials-all.ensures (omega arith, trials-none _ _ _ _ _)

pub returns-in_err-found : goal.returns-in_err-found
returns-in_err-found g c = rw (met_reason g.E.Reason.said _ _ c.from_residual.ensures.1)
    (trials-refused _ _ _ _ _ _ c.loop-j.invariant.1 c.if-self-j.true c.loop-j-test.true c.in_err-found.ensures)

pub loop-j-preserved : goal.loop-j-preserved
unfolding with_trial
loop-j-preserved g c = elim c.if-self-j.branch [
  | then-self-j+in_ok-found w ↦ rw (w.all-is, w.begun-is, w.is_unstable.ensures, add-one c.loop-j.all.count)
      (omega arith, trials-more _ _ _ _ _ _ c.loop-j.invariant.1 w.if-self-j.true w.in_ok-found.ensures)
  | else-self-j w ↦ rw (w.all-is, w.begun-is) (omega arith, trials_skip _ _ _ _ _ _ c.loop-j.invariant.1 w.if-self-j.false)
]
