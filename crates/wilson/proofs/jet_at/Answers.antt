-- `wilson::jet_at` meets its contract. Assumes nothing.
use Rattle.wilson.proofs.Entries.{jet_first}
use Rattle.wilson.proofs.jet_at.Goals as goal

pub returns : goal.returns
returns c = jet_first _ _
