-- `saturation::activity_dew_pressure` meets its contract. Assumes nothing.
use mathlib.Core.Path.{◌∙◌, sym}
use Rattle.floats.specs.Outcome.{bind, need}
use Rattle.outcome.proofs.Exits.{met_reason}
use Rattle.saturation.specs.Saturation.{dew_task}
use Rattle.saturation.proofs.Forgets.{dew-outcome}
use Rattle.saturation.proofs.activity_dew_pressure.Goals as goal

pub returns-in_err-pressure : goal.returns-in_err-pressure
unfolding dew_task bind
returns-in_err-pressure g c = rw (met_reason g.E.Reason.said c.in_err-pressure.field-0.0 c.from_residual.result c.from_residual.ensures.1, ← (c.in_err-pressure.ensures.outcome ∙ dew-outcome _ _ _ _ _))

pub returns-then-not-check_pressure : goal.returns-then-not-check_pressure
unfolding dew_task bind need
returns-then-not-check_pressure g c = rw (g.met.E.Reason.of_refusal _ _ c.from.ensures, ← (c.in_ok-pressure.ensures.outcome ∙ dew-outcome _ _ _ _ _), sym c.if-not-check_pressure.ensures)

pub returns : goal.returns
unfolding dew_task bind need
returns g c = rw (← (c.in_ok-pressure.ensures.outcome ∙ dew-outcome _ _ _ _ _), sym c.if-not-check_pressure.ensures, c.value.ensures)
