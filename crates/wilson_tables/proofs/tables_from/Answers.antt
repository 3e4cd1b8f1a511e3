-- `wilson_tables::tables_from` meets its contract. Assumes nothing.
use Rattle.wilson_tables.proofs.Cells.{filled}
use Rattle.wilson_tables.proofs.tables_from.Goals as goal

pub returns : goal.returns
returns g c P h = rw (← c.value.ensures) (filled (g.S.Source.six c.args.source.now) P _ _ h _ c.fill_from.ensures)
