-- `distance::phases_at` meets its contract. Assumes nothing.
use Rattle.outcome.proofs.Exits.{met}
use Rattle.distance.proofs.Steps.{phases-no, phases-ok}
use Rattle.distance.proofs.phases_at.Goals as goal

pub returns-in_err-flash : goal.returns-in_err-flash
returns-in_err-flash c = rw (met c.in_err-flash.field-0.0 c.from_residual.result c.from_residual.ensures.1) (phases-no _ _ c.in_err-flash.ensures)

pub returns : goal.returns
returns c = phases-ok _ _ c.in_ok-flash.ensures c.phase_number.ensures
