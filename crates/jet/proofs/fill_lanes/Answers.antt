-- `jet::fill_lanes` meets its contract. Assumes nothing.
use Rattle.jet.specs.Lanes.{cell_in}
use Rattle.jet.proofs.Lanes.{room, all_lie}
use Rattle.jet.proofs.fill_lanes.Goals as goal

pub returns : goal.returns
returns g c =
    let (_, k, _) = c.requires in
    let P = g.P.Pairs.made_of c.args.pairs.now in
    let S = g.S.Source.six c.args.source.now in
    let F = cell_in (g.P.Pairs.cells c.args.pairs.now) (g.P.Pairs.own_cells c.args.pairs.now) S in
    c.fill_rows.ensures F
    (all_lie (g.P.Pairs.beside_of c.args.pairs.now) (g.P.Pairs.exponent_of c.args.pairs.now) P (g.P.Pairs.cells c.args.pairs.now) (g.P.Pairs.own_cells c.args.pairs.now) S
    (g.met.P.Pairs.makes c.args.pairs.now) c.args.m.n c.lay-count.result _ (room g.row.K _ c.args.m.n k) c.lay-count.ensures.count c.lay-count.ensures.lanes c.raise.ensures)
