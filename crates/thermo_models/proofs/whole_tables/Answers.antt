-- `thermo_models::whole_tables` meets its contract: by the book's model. Assumes nothing.
use Rattle.thermo_models.proofs.Whole.{nrtl_whole, wilson_whole}
use Rattle.thermo_models.proofs.whole_tables.Goals as goal
use Rattle.thermo_models.proofs.whole_tables.Goals.{in-Nrtl, in-Wilson}

pub returns : goal.returns
returns c = elim c.match-model.branch [
  | in-Nrtl w ↦ rw (w.table-is, w.alphas-is) (nrtl_whole c.args.book.now _ c.args.n c.args.t c.requires c.model_of-model.ensures c.places.ensures w.in-Nrtl.is w.tables_from-alphas.ensures)
  | in-Wilson w ↦ rw (w.table-is, w.alphas-is) (wilson_whole c.args.book.now _ c.args.n c.args.t c.requires c.model_of-model.ensures c.places.ensures w.in-Wilson.is w.tables_from.ensures)
]
