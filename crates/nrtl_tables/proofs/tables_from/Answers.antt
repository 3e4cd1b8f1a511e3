-- `nrtl_tables::tables_from` meets its contract. Assumes nothing.
use mathlib.Core.Path.{◌∙◌, ap}
use Rattle.nrtl_tables.specs.Pair.{basis_of}
use Rattle.nrtl_tables.proofs.Cells.{filled-no, filled_yes}
use Rattle.nrtl_tables.proofs.tables_from.Goals as goal

pub returns-then-not-all_right : goal.returns-then-not-all_right
returns-then-not-all_right g c P h =
    filled-no (g.S.Source.six c.args.source.now) P _ _ _ h (c.basis_at-b.ensures ∙ ap basis_of c.value.ensures) c.if-not-all_right.ensures

pub returns : goal.returns
returns g c P h =
    filled_yes (g.S.Source.six c.args.source.now) P _ _ _ h (c.basis_at-b.ensures ∙ ap basis_of c.value.ensures) c.if-not-all_right.ensures c.fill_from.ensures
