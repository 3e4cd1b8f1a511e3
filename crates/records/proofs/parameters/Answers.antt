-- `records::parameters` meets its contract. From what the callees ensure. Assumes nothing.
use Rattle.records.proofs.Offered.{copy-parameters}
use Rattle.records.proofs.parameters.Goals as goal

pub returns : goal.returns
returns c = rw copy-parameters (rw (c.of-m.ensures, c.model_of-model.ensures, c.offered_place-place.ensures) at c.fill.ensures)
