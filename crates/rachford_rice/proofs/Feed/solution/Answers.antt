use Rattle.rachford_rice.proofs.Laws.{solution-is}
use Rattle.rachford_rice.proofs.Feed.solution.Goals as goal

pub returns : goal.returns
returns c = search solution-is
