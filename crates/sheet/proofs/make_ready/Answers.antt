-- `sheet::make_ready` meets its contract: nothing is offered. Assumes nothing.
use Rattle.records.proofs.Offered.{copy-nothing}
use Rattle.sheet.proofs.make_ready.Goals as goal

pub returns : goal.returns
returns c l = rw copy-nothing at c.ready.ensures
