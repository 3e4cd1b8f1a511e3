-- `tp_flash::Feed::as_liquid` meets its contract. Assumes nothing.
use Rattle.floats.specs.Outcome.{bind}
use Rattle.counted.proofs.Laws.{counts_none, counts_next, counts_stop}
use Rattle.outcome.proofs.Exits.{met}
use Rattle.thermo_types.proofs.Passing.{fractions_first}
use Rattle.tp_flash.specs.Counted.{liquid_counted}
use Rattle.tp_flash.proofs.Feed.as_liquid.Goals as goal

pub returns-in_err-trials : goal.returns-in_err-trials
unfolding liquid_counted
returns-in_err-trials c = rw (met c.in_err-trials.field-0.0 c.from_residual.result c.from_residual.ensures.1) (counts_stop _ c.in_err-trials.ensures)

pub returns-in_err-with_fractions : goal.returns-in_err-with_fractions
unfolding liquid_counted bind
returns-in_err-with_fractions c = let r = c.from_residual-in_err-with_fractions in
    rw (met c.in_err-with_fractions.field-0.0 r.result r.ensures.1) (counts_next _ c.in_ok-trials.ensures (counts_none (rw (fractions_first, ← c.in_err-with_fractions.ensures))))

pub returns : goal.returns
unfolding liquid_counted bind
returns c = counts_next _ c.in_ok-trials.ensures (counts_none (rw (fractions_first, ← c.in_ok-with_fractions.ensures, c.single_phase.ensures)))
