-- `thermo_models::activity` meets its contract. Assumes nothing.
use mathlib.Core.Path.{◌∙◌}
use Rattle.outcome.proofs.Exits.{met_reason}
use Rattle.thermo_models.specs.Activity.{activity_by_reason}
use Rattle.thermo_models.proofs.Stands.{activity-given, activity-none}
use Rattle.thermo_models.proofs.activity.Goals as goal

pub returns-in_err-excess : goal.returns-in_err-excess
unfolding activity_by_reason
returns-in_err-excess g c = met_reason g.E.Reason.said _ c.from_residual.result c.from_residual.ensures.1 ∙ activity-none _ c.in_err-excess.ensures

pub returns : goal.returns
unfolding activity_by_reason
returns g c = activity-given _ c.in_ok-excess.ensures
