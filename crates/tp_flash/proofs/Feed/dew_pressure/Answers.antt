-- `tp_flash::Feed::dew_pressure` meets its contract. Assumes nothing.
use mathlib.Core.Path.{refl}
use borrow.Author.Tests.{eq-eqb, ne_eqb}
use Rattle.counted.proofs.Laws.{counts_none, counts_next, counts_stop, counts_first, counts_second}
use Rattle.outcome.proofs.Exits.{met}
use Rattle.tp_flash.specs.Counted.{dew_of_counted}
use Rattle.tp_flash.proofs.Feed.dew_pressure.Goals as goal

pub returns-then-present_count-eq1 : goal.returns-then-present_count-eq1
unfolding dew_of_counted
returns-then-present_count-eq1 c = rw (← c.present_count.ensures) (counts_first _ (eq-eqb _ _ c.if-present_count-eq1.true) (counts_none refl))

pub returns-in_err-d : goal.returns-in_err-d
unfolding dew_of_counted
returns-in_err-d c = rw (met c.in_err-d.field-0.0 c.from_residual.result c.from_residual.ensures.1, ← c.present_count.ensures)
    (counts_second _ (ne_eqb _ _ c.if-present_count-eq1.false) (counts_stop _ c.in_err-d.ensures))

pub returns : goal.returns
unfolding dew_of_counted
returns c = rw (← c.present_count.ensures) (counts_second _ (ne_eqb _ _ c.if-present_count-eq1.false) (counts_next _ c.in_ok-d.ensures (counts_none refl)))
