-- `saturation::activity_bubble_pressure` meets its contract. Assumes nothing.
use Rattle.floats.specs.Outcome.{bind, need}
use Rattle.outcome.proofs.Exits.{met_refusal}
use Rattle.saturation.specs.Saturation.{bubble_at, residual, bubble_task}
use Rattle.saturation.proofs.activity_bubble_pressure.Goals as goal

pub returns-in_err-pressure : goal.returns-in_err-pressure
unfolding bubble_task bubble_at bind
returns-in_err-pressure g c =
    rw (
      met_refusal g.E.Reason.said g.met.E.Reason.of_refusal c.in_err-pressure.field-0.0 c.from_residual-in_err-pressure.result c.from_residual-in_err-pressure.ensures.1,
      ← c.in_ok-activity.ensures,
      ← c.in_err-pressure.ensures,
    )

pub returns-then-not-check_pressure : goal.returns-then-not-check_pressure
unfolding bubble_task bubble_at bind need
returns-then-not-check_pressure g c = rw (g.met.E.Reason.of_refusal _ _ c.from.ensures, ← c.in_ok-activity.ensures, ← c.in_ok-pressure.ensures, ← c.if-not-check_pressure.ensures)

pub returns-in_err-residual : goal.returns-in_err-residual
unfolding bubble_task bubble_at residual bind need
returns-in_err-residual g c =
    rw (
      met_refusal g.E.Reason.said g.met.E.Reason.of_refusal c.in_err-residual.field-0.0 c.from_residual-in_err-residual.result c.from_residual-in_err-residual.ensures.1,
      ← c.in_ok-activity.ensures,
      ← c.in_ok-pressure.ensures,
      ← c.if-not-check_pressure.ensures,
      ← c.in_err-residual.ensures,
    )

pub returns : goal.returns
unfolding bubble_task bubble_at residual bind need
returns g c = rw (← c.in_ok-activity.ensures, ← c.in_ok-pressure.ensures, ← c.if-not-check_pressure.ensures, ← c.in_ok-residual.ensures, ← c.value.ensures)
