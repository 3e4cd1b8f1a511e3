-- `tp_flash::FlashFeed::split` meets its contract. Assumes nothing.
use mathlib.Core.Path.{sym}
use Rattle.counted.proofs.Laws.{counts_one, counts_next, counts_stop}
use Rattle.outcome.proofs.Exits.{met}
use Rattle.tp_flash.specs.Counted.{split_feed_counted}
use Rattle.tp_flash.proofs.FlashFeed.split.Goals as goal

pub returns-in_err-split : goal.returns-in_err-split
unfolding split_feed_counted
returns-in_err-split c =
    rw (met c.in_err-split.field-0.0 c.from_residual.result c.from_residual.ensures.1)
    (counts_next _ (counts_one c.begin.ensures (sym c.args.self.of_feed)) (counts_stop _ c.in_err-split.ensures))

pub returns : goal.returns
unfolding split_feed_counted
returns c = counts_next _ (counts_one c.begin.ensures (sym c.args.self.of_feed)) (counts_next _ c.in_ok-split.ensures c.from_split.ensures)
