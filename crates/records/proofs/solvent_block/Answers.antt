-- `records::solvent_block` meets its contract. Past the end both blocks are empty. Assumes nothing.
use Rattle.std.proofs.Common.{◌∙◌, arith}
use Rattle.records.proofs.Loads.{solvent_there}
use Rattle.records.proofs.solvent_block.Goals as goal

pub returns : goal.returns
returns c = c.block.ensures ∙ solvent_there _ _ (omega arith) c.saturating_add.ensures
