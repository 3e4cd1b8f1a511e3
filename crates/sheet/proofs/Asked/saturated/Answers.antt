-- `sheet::Asked::saturated` meets its contract. Assumes nothing.
use mathlib.Core.Path.{ap}
use Rattle.floats.proofs.Outcomes.{bind_yes, bind-no}
use Rattle.outcome.specs.Refused.{outcome_by}
use Rattle.sheet.specs.Tasks.{saturated}
use Rattle.sheet.proofs.Laws.{same_as, quits_reason}
use Rattle.sheet.proofs.Asked.saturated.Goals as goal

pub returns-in_err-found : goal.returns-in_err-found
unfolding saturated
returns-in_err-found g c = quits_reason g.E.Reason.said _ _ c.from_residual.ensures.1 (bind-no _ (bind-no _ (ap (outcome_by g.E.Reason.said) c.in_err-found.was)))

pub returns : goal.returns
unfolding saturated
returns g c = same_as (bind_yes _ (bind_yes _ (ap (outcome_by g.E.Reason.said) c.in_ok-found.was))) (rw c.saturation_block.ensures at c.write_alone.ensures)
