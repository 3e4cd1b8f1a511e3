-- `rachford_rice::Feed::k_min` meets its contract: what is kept is what `floats::min` gives. Assumes nothing.
use Rattle.floats.specs.Small.{min_of}
use Rattle.rachford_rice.specs.Rachford.{k_min}
use Rattle.rachford_rice.proofs.Feed.k_min.Goals as goal

pub returns : goal.returns
unfolding k_min
returns c = c.k_chosen.ensures min_of (λ a b r h. h)
