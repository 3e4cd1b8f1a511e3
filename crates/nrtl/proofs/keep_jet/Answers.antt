-- `nrtl::keep_jet` meets its contract. Assumes nothing.
use Rattle.nrtl.proofs.Lanes.{jet_kept}
use Rattle.nrtl.proofs.keep_jet.Goals as goal

pub returns : goal.returns
returns c = jet_kept _ _ _
