-- `tp_flash::FlashFeed::at` meets its contract. Assumes nothing.
use Rattle.counted.proofs.Laws.{counts_none, counts_first, counts_second}
use Rattle.tp_flash.specs.Counted.{between_counted}
use Rattle.tp_flash.proofs.FlashFeed.at.Goals as goal

pub returns-then-pressure-self : goal.returns-then-pressure-self
unfolding between_counted
returns-then-pressure-self c = counts_first _ (rw c.value-pressure.ensures at c.if-pressure-self.true) c.as_liquid.ensures

pub returns-then-pressure-self-2 : goal.returns-then-pressure-self-2
unfolding between_counted
returns-then-pressure-self-2 c = let p = c.value-pressure.ensures in
    counts_second _ (rw p at c.if-pressure-self.false) (counts_first _ (rw p at c.if-pressure-self-2.true) (counts_none c.as_vapor.ensures))

pub returns : goal.returns
unfolding between_counted
returns c = let p = c.value-pressure.ensures in
    counts_second _ (rw p at c.if-pressure-self.false) (counts_second _ (rw p at c.if-pressure-self-2.false) c.split.ensures)
