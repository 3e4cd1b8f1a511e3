-- `distance::outcome_between` meets its contract. Assumes nothing.
use Rattle.distance.proofs.Steps.{keeps_liquid, keeps_vapor}
use Rattle.distance.proofs.outcome_between.Goals as goal

pub returns-then-pressure-feed-clause-kept : goal.returns-then-pressure-feed-clause-kept
returns-then-pressure-feed-clause-kept c = let e = c.phases_once.ensures in
    rw e.known (keeps_liquid _ c.requires c.args.p.0 _ (rw c.value-pressure.ensures at c.if-pressure-feed.true) e.outcome)

pub returns-then-pressure-feed-2-clause-kept : goal.returns-then-pressure-feed-2-clause-kept
returns-then-pressure-feed-2-clause-kept c = let e = c.phases_once-then-pressure-feed-2.ensures in
    let p = c.value-pressure.ensures in
    rw e.known (keeps_vapor _ c.requires c.args.p.0 _ (rw p at c.if-pressure-feed.false) (rw p at c.if-pressure-feed-2.true) e.outcome)
