-- `nrtl::keep_two` meets its contract. Assumes nothing.
use Rattle.nrtl.proofs.Lanes.{two-kept}
use Rattle.nrtl.proofs.keep_two.Goals as goal

pub returns : goal.returns
returns c = two-kept _ _ _
