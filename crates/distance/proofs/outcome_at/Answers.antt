-- `distance::outcome_at` meets its contract. Assumes nothing.
use Rattle.outcome.proofs.Exits.{met}
use Rattle.distance.proofs.Steps.{at-no, at-outside, at-inside}
use Rattle.distance.proofs.outcome_at.Goals as goal

pub returns-in_err-v-clause-outcome : goal.returns-in_err-v-clause-outcome
returns-in_err-v-clause-outcome c = rw (met c.in_err-v.field-0.0 c.from_residual.result c.from_residual.ensures.1) (at-no _ _ c.in_err-v.ensures)

pub returns-then-not-check_pressure-clause-outcome : goal.returns-then-not-check_pressure-clause-outcome
returns-then-not-check_pressure-clause-outcome c = at-outside _ _ c.in_ok-v.ensures c.value.ensures c.if-not-check_pressure.ensures

pub returns-clause-outcome : goal.returns-clause-outcome
returns-clause-outcome c = at-inside _ _ c.in_ok-v.ensures c.value.ensures c.if-not-check_pressure.ensures c.outcome_between.ensures.outcome
