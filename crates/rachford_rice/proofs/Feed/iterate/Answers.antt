use Rattle.rachford_rice.proofs.Laws.{loop_out, loop_stops, loop_last, loop_more}
use Rattle.rachford_rice.proofs.Feed.iterate.Goals as goal

pub returns-then-not-is_finite : goal.returns-then-not-is_finite
returns-then-not-is_finite c = search loop_stops

pub returns-in-Break : goal.returns-in-Break
returns-in-Break c = search loop_last

pub loop-done-preserved : goal.loop-done-preserved
loop-done-preserved c = search loop_more

pub returns : goal.returns
returns c = search loop_out
