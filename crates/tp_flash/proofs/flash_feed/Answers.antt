-- `tp_flash::flash_feed` meets its contract. Assumes nothing.
use mathlib.Core.Path.{refl}
use Rattle.floats.specs.Outcome.{bind}
use Rattle.counted.proofs.Laws.{counts_none, counts_one, counts_next, counts_stop}
use Rattle.outcome.proofs.Exits.{met}
use Rattle.saturation.specs.Saturation.{bubble_at}
use Rattle.tp_flash.specs.Counted.{saturated_counted}
use Rattle.tp_flash.proofs.Laws.{exit-is}
use Rattle.tp_flash.proofs.flash_feed.Goals as goal

pub returns-in_err-activity-clause-saturated : goal.returns-in_err-activity-clause-saturated
unfolding saturated_counted bubble_at bind
returns-in_err-activity-clause-saturated c = let r = c.from_residual in
    rw (met c.in_err-activity.field-0.0 r.result r.ensures.1) (counts_stop _ (counts_one c.begin.ensures (rw (← c.in_err-activity.ensures))))

pub returns-in_err-activity-clause-feed : goal.returns-in_err-activity-clause-feed
returns-in_err-activity-clause-feed c = let r = c.from_residual in rw (exit-is c.in_err-activity.field-0.0 r.result r.ensures.1) tt

pub returns-in_err-b-clause-saturated : goal.returns-in_err-b-clause-saturated
unfolding saturated_counted bubble_at bind
returns-in_err-b-clause-saturated c = let r = c.from_residual-in_err-b in
    rw (met c.in_err-b.field-0.0 r.result r.ensures.1) (counts_stop _ (counts_one c.begin.ensures (rw (← c.in_ok-activity.ensures, ← c.in_err-b.ensures))))

pub returns-in_err-b-clause-feed : goal.returns-in_err-b-clause-feed
returns-in_err-b-clause-feed c = let r = c.from_residual-in_err-b in rw (exit-is c.in_err-b.field-0.0 r.result r.ensures.1) tt

pub returns-in_err-dew-clause-saturated : goal.returns-in_err-dew-clause-saturated
unfolding saturated_counted bubble_at bind
returns-in_err-dew-clause-saturated c = let r = c.from_residual-in_err-dew in
    rw (met c.in_err-dew.field-0.0 r.result r.ensures.1)
    (counts_next {a = c.in_ok-b.b} _ (counts_one c.begin.ensures (rw (← c.in_ok-activity.ensures, ← c.in_ok-b.ensures))) (counts_stop _ c.in_err-dew.ensures))

pub returns-in_err-dew-clause-feed : goal.returns-in_err-dew-clause-feed
returns-in_err-dew-clause-feed c = let r = c.from_residual-in_err-dew in rw (exit-is c.in_err-dew.field-0.0 r.result r.ensures.1) tt

pub returns-clause-saturated : goal.returns-clause-saturated
unfolding saturated_counted bubble_at bind
returns-clause-saturated c =
    counts_next {a = c.in_ok-b.b} _ (counts_one c.begin.ensures (rw (← c.in_ok-activity.ensures, ← c.in_ok-b.ensures))) (counts_next _ c.in_ok-dew.ensures (counts_none refl))
