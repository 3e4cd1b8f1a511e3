-- `saturation::Vapor::point` meets its contract. Assumes nothing.
use Rattle.floats.specs.Outcome.{bind}
use Rattle.outcome.proofs.Exits.{met_reason, met_refusal}
use Rattle.saturation.proofs.Answers.{places_is}
use Rattle.saturation.proofs.Laws.{point-from, point_none, point_one}
use Rattle.saturation.proofs.Vapor.point.Goals as goal

pub returns-in_err-pressure : goal.returns-in_err-pressure
returns-in_err-pressure g c = rw (met_refusal g.E.Reason.said g.met.E.Reason.of_refusal c.in_err-pressure.field-0.0 c.from_residual.result c.from_residual.ensures.1) (point_none _ _ _ _ _ _ c.in_err-pressure.ensures)

pub returns-in_err-activity : goal.returns-in_err-activity
unfolding bind
returns-in_err-activity g c = point_one _ _ _ _ _ _ c.in_ok-pressure.ensures c.begin.ensures
    (rw (
      met_reason g.E.Reason.said c.in_err-activity.field-0.0 c.from_residual-in_err-activity.result c.from_residual-in_err-activity.ensures.1,
      point-from,
      ← c.in_ok-pressure.ensures,
      ← c.in_err-activity.ensures,
    ))

pub returns-in_err-residual : goal.returns-in_err-residual
unfolding bind
returns-in_err-residual g c = point_one _ _ _ _ _ _ c.in_ok-pressure.ensures c.begin.ensures
    (rw (
      met_refusal g.E.Reason.said g.met.E.Reason.of_refusal c.in_err-residual.field-0.0 c.from_residual-in_err-residual.result c.from_residual-in_err-residual.ensures.1,
      point-from,
      ← c.in_ok-pressure.ensures,
      ← c.in_ok-activity.ensures,
      ← places_is _ c.args.self.m.few,
      ← c.in_err-residual.ensures,
    ))

pub returns : goal.returns
unfolding bind
returns g c = point_one _ _ _ _ _ _ c.in_ok-pressure.ensures c.begin.ensures
    (rw (point-from, ← c.in_ok-pressure.ensures, ← c.in_ok-activity.ensures, ← places_is _ c.args.self.m.few, ← c.in_ok-residual.ensures))
