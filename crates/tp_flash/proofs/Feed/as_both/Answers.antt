-- `tp_flash::Feed::as_both` meets its contract. Assumes nothing.
use Rattle.floats.specs.Outcome.{bind}
use Rattle.floats.specs.Vector.{at}
use Rattle.counted.proofs.Laws.{counts_none, counts_next, counts_stop}
use Rattle.outcome.proofs.Exits.{met}
use Rattle.thermo_types.proofs.Passing.{fractions_first}
use Rattle.tp_flash.specs.Counted.{both_counted}
use Rattle.tp_flash.proofs.Feed.as_both.Goals as goal

pub returns-in_err-trials : goal.returns-in_err-trials
unfolding both_counted
returns-in_err-trials c = rw (met c.in_err-trials.field-0.0 c.from_residual.result c.from_residual.ensures.1) (counts_stop _ c.in_err-trials.ensures)

pub returns-in_err-with_fractions : goal.returns-in_err-with_fractions
unfolding both_counted bind
returns-in_err-with_fractions c = let r = c.from_residual-in_err-with_fractions in
    rw (met c.in_err-with_fractions.field-0.0 r.result r.ensures.1)
    (counts_next _ c.in_ok-trials.ensures (counts_none (rw (fractions_first (at c.args.split.vapor) _ _, ← c.in_err-with_fractions.ensures))))

pub returns-in_err-with_fractions-2 : goal.returns-in_err-with_fractions-2
unfolding both_counted bind
returns-in_err-with_fractions-2 c = let r = c.from_residual-in_err-with_fractions-2 in
    rw (met c.in_err-with_fractions-2.field-0.0 r.result r.ensures.1)
    (counts_next _ c.in_ok-trials.ensures (counts_none
    (rw (fractions_first (at c.args.split.vapor) _ _, ← c.in_ok-with_fractions.ensures, fractions_first, ← c.in_err-with_fractions-2.ensures))))

pub returns : goal.returns
unfolding both_counted bind
returns c = counts_next _ c.in_ok-trials.ensures (counts_none
    (rw (fractions_first (at c.args.split.vapor) _ _, ← c.in_ok-with_fractions.ensures, fractions_first, ← c.in_ok-with_fractions-2.ensures, c.balance.ensures)))
