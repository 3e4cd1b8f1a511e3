-- `tp_flash::Feed::stable_liquid` meets its contract. Assumes nothing.
use mathlib.Core.Path.{sym}
use Rattle.std.proofs.lemmas.Bool.{not-true, not-false}
use Rattle.floats.proofs.Outcomes.{need_yes, need-no}
use Rattle.counted.proofs.Laws.{counts_none, counts_next, counts_stop}
use Rattle.outcome.proofs.Exits.{met}
use Rattle.tp_flash.specs.Counted.{stable_counted}
use Rattle.tp_flash.proofs.Feed.stable_liquid.Goals as goal

pub returns-in_err-trials : goal.returns-in_err-trials
unfolding stable_counted
returns-in_err-trials c = rw (met c.in_err-trials.field-0.0 c.from_residual.result c.from_residual.ensures.1) (counts_stop _ c.in_err-trials.ensures)

pub returns-then-not-trials : goal.returns-then-not-trials
unfolding stable_counted
returns-then-not-trials c = counts_next {a = c.in_ok-trials.trials} _ c.in_ok-trials.ensures (counts_none (sym (need-no 29 _ (not-true _ c.if-not-trials.true))))

pub returns : goal.returns
unfolding stable_counted
returns c = counts_next {a = c.in_ok-trials.trials} _ c.in_ok-trials.ensures (counts_none (sym (need_yes 29 _ (not-false _ c.if-not-trials.false))))
