-- `rachford_rice::rachford_rice_negative` meets its contract. Assumes nothing.
use Rattle.floats.specs.Outcome.{bind}
use Rattle.outcome.proofs.Exits.{met}
use Rattle.rachford_rice.specs.Rachford.{negative}
use Rattle.rachford_rice.proofs.Laws.{validate_then}
use Rattle.rachford_rice.proofs.rachford_rice_negative.Goals as goal

pub returns-in_err-validate : goal.returns-in_err-validate
unfolding negative bind
returns-in_err-validate c = rw (← validate_then, ← c.in_err-validate.ensures) (met c.in_err-validate.field-0.0 c.from_residual.result c.from_residual.ensures.1)

pub returns : goal.returns
unfolding negative bind
returns c = rw (← validate_then, ← c.in_ok-validate.ensures, ← c.of.ensures) c.between.ensures
