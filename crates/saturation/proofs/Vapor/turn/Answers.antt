-- `saturation::Vapor::turn` meets its contract. Assumes nothing.
use Rattle.floats.specs.Outcome.{bind, need}
use Rattle.floats.proofs.Outcomes.{need_both}
use Rattle.outcome.proofs.Exits.{met_reason, met_refusal}
use Rattle.thermo_models.specs.Activity.{activity_by_reason}
use Rattle.thermo_models.proofs.Stands.{activity-given, activity-none}
use Rattle.saturation.proofs.Laws.{turn-from, turn_none, turn_one}
use Rattle.saturation.proofs.Vapor.turn.Goals as goal

pub returns-in_err-pressure : goal.returns-in_err-pressure
returns-in_err-pressure g c = rw (met_refusal g.E.Reason.said g.met.E.Reason.of_refusal c.in_err-pressure.field-0.0 c.from_residual.result c.from_residual.ensures.1) (turn_none _ _ _ _ _ c.in_err-pressure.ensures)

pub returns-in_err-excess : goal.returns-in_err-excess
unfolding bind activity_by_reason
returns-in_err-excess g c = turn_one _ _ _ _ _ c.in_ok-pressure.ensures c.begin.ensures
    (rw (
      met_reason g.E.Reason.said c.in_err-excess.field-0.0 c.from_residual-in_err-excess.result c.from_residual-in_err-excess.ensures.1,
      turn-from,
      ← c.in_ok-pressure.ensures,
      ← activity-none _ c.in_err-excess.ensures,
    ))

pub returns-then-not-is_finite : goal.returns-then-not-is_finite
unfolding bind need activity_by_reason
returns-then-not-is_finite g c = turn_one _ _ _ _ _ c.in_ok-pressure.ensures c.begin.ensures
    (rw (g.met.E.Reason.of_refusal _ _ c.from.ensures, turn-from, ← c.in_ok-pressure.ensures, ← activity-given _ c.in_ok-excess.ensures, ← c.largest_change-change.ensures, ← c.is_finite.ensures, ← c.is_finite-2.ensures, need_both, c.if-not-is_finite.true))

pub returns : goal.returns
unfolding bind need activity_by_reason
returns g c = turn_one _ _ _ _ _ c.in_ok-pressure.ensures c.begin.ensures
    (rw (turn-from, ← c.in_ok-pressure.ensures, ← activity-given _ c.in_ok-excess.ensures, ← c.largest_change-change.ensures, ← c.is_finite.ensures, ← c.is_finite-2.ensures, need_both, c.if-not-is_finite.false, ← c.largest_change-change.ensures))
