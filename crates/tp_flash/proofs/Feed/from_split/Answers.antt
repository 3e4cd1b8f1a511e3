-- `tp_flash::Feed::from_split` meets its contract. Assumes nothing.
use mathlib.Core.Path.{refl}
use Rattle.counted.proofs.Laws.{counts-needed}
use Rattle.counted.specs.Counted.{need_counted, choose_counted}
use Rattle.tp_flash.specs.Counted.{from_split_counted}
use Rattle.tp_flash.proofs.Feed.from_split.Goals as goal

pub returns-then-inside : goal.returns-then-inside
unfolding from_split_counted need_counted choose_counted
returns-then-inside c = rw (← c.if-inside.ensures) c.as_both.ensures

pub returns-then-near_edge : goal.returns-then-near_edge
unfolding from_split_counted choose_counted
returns-then-near_edge c = rw (← c.if-inside.ensures, ← c.if-near_edge.ensures) c.at_boundary.ensures

pub returns-else-near_edge : goal.returns-else-near_edge
unfolding from_split_counted choose_counted
returns-else-near_edge c = rw (← c.if-inside.ensures, ← c.if-near_edge.ensures) (counts-needed _ refl)
