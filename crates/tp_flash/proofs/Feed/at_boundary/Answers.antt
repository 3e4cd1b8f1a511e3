-- `tp_flash::Feed::at_boundary` meets its contract. Assumes nothing.
use Rattle.counted.proofs.Laws.{counts_none, counts_first, counts_second}
use Rattle.tp_flash.specs.Counted.{boundary_counted}
use Rattle.tp_flash.proofs.Feed.at_boundary.Goals as goal

pub returns-then-beta : goal.returns-then-beta
unfolding boundary_counted
returns-then-beta c = counts_first _ c.if-beta.true (counts_none c.as_vapor.ensures)

pub returns-else-beta : goal.returns-else-beta
unfolding boundary_counted
returns-else-beta c = counts_second _ c.if-beta.false c.as_liquid.ensures
