-- `wilson_tables::tables` meets its contract. Assumes nothing.
use Rattle.jet.proofs.Lanes.{plane_lists}
use Rattle.wilson_tables.proofs.tables.Goals as goal

pub returns : goal.returns
returns c = rw c.of.ensures at (c.tables_from.ensures c.args.parameters.now (plane_lists c.args.parameters.now c.of.result.few))
