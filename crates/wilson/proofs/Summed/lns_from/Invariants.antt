-- `wilson::Summed::lns_from` meets its contract. Assumes nothing.
use Rattle.floats.specs.Vector.{at}
use Rattle.jet.specs.Planes.{twos}
use Rattle.excess.specs.Steps.{s_in, r_in}
use Rattle.excess.proofs.Steps.{Turning}
use Rattle.wilson.specs.Sums.{quotients, wilson_from}
use Rattle.wilson.proofs.Summed.lns_from.Given as goal

abbrev pub invariant-loop-w : goal.invariant-loop-w
invariant-loop-w g l =
    Turning (quotients (twos l.self.of.table.now 0) (s_in l.self.sums.now) (at l.self.of.x.now) l.self.of.m.n) (wilson_from (twos l.self.of.table.now 0) (s_in l.self.sums.now) (r_in l.self.sums.now) (at l.self.of.x.now) l.self.of.m.n) l.i l.w g.row.W l.l
