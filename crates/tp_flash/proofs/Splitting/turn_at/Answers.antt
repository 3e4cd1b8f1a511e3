-- `tp_flash::Splitting::turn_at` meets its contract. Assumes nothing.
use mathlib.Core.Path.{sym}
use Rattle.floats.specs.Outcome.{bind, need}
use Rattle.counted.proofs.Laws.{counts_one}
use Rattle.outcome.proofs.Exits.{met}
use Rattle.tp_flash.specs.Split.{turn_at}
use Rattle.tp_flash.proofs.Splitting.turn_at.Goals as goal

pub returns-in_err-activity : goal.returns-in_err-activity
unfolding turn_at bind
returns-in_err-activity c = counts_one c.begin.ensures (rw (met c.in_err-activity.field-0.0 c.from_residual.result c.from_residual.ensures.1, ← c.in_err-activity.ensures))

pub returns-then-not-is_finite : goal.returns-then-not-is_finite
unfolding turn_at bind need
returns-then-not-is_finite c = counts_one c.begin.ensures (rw (← c.in_ok-activity.ensures, ← c.split_gap-residual.ensures, sym c.if-not-is_finite.ensures))

pub returns : goal.returns
unfolding turn_at bind need
returns c = counts_one c.begin.ensures (rw (← c.in_ok-activity.ensures, ← c.split_gap-residual.ensures, sym c.if-not-is_finite.ensures))
