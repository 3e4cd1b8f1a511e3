-- `thermo_models::tables` meets its contract: by the book's model. Assumes nothing.
use Rattle.thermo_models.proofs.Stands.{stands, nrtl_made, wilson_made}
use Rattle.thermo_models.proofs.tables.Goals as goal
use Rattle.thermo_models.proofs.tables.Goals.{in-Nrtl, in-Wilson}

pub returns : goal.returns
returns c = elim c.match-model.branch [
  | in-Nrtl w ↦ rw (w.table-is, w.alphas-is) (search (stands, nrtl_made))
  | in-Wilson w ↦ rw (w.table-is, w.alphas-is) (search (stands, wilson_made))
]
