-- `distance::from_feed` meets its contract. Assumes nothing.
use mathlib.Core.Path.{sym}
use Rattle.floats.proofs.Outcomes.{bind_yes, bind-no}
use Rattle.outcome.proofs.Exits.{met}
use Rattle.distance.proofs.from_feed.Goals as goal

pub returns-in_err-outcome : goal.returns-in_err-outcome
returns-in_err-outcome c = rw (met c.in_err-outcome.field-0.0 c.from_residual.result c.from_residual.ensures.1) (sym (bind-no _ (sym c.in_err-outcome.ensures.outcome)))

pub returns : goal.returns
returns c = rw c.search.ensures (sym (bind_yes _ (sym c.in_ok-outcome.ensures.outcome)))
