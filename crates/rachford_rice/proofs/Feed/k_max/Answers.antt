-- `rachford_rice::Feed::k_max` meets its contract: what is kept is what `floats::max` gives. Assumes nothing.
use Rattle.floats.specs.Small.{max_of}
use Rattle.rachford_rice.specs.Rachford.{k_max}
use Rattle.rachford_rice.proofs.Feed.k_max.Goals as goal

pub returns : goal.returns
unfolding k_max
returns c = c.k_chosen.ensures max_of (λ a b r h. h)
