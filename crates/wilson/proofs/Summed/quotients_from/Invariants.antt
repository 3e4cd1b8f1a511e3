-- `wilson::Summed::quotients_from` meets its contract: each solvent k adds a term to every lane. Assumes nothing.
use Rattle.std.proofs.Common.{◌+◌}
use Rattle.floats.specs.Vector.{at}
use Rattle.jet.specs.Planes.{twos}
use Rattle.excess.specs.Steps.{s_in, Side}
use Rattle.excess.proofs.Steps.{Turning}
use Rattle.wilson.specs.Sums.{quotients}
use Rattle.wilson.proofs.Summed.quotients_from.Given as goal

abbrev pub invariant-loop-k : goal.invariant-loop-k
invariant-loop-k g l = Side (quotients (twos l.self.of.table.now 0) (s_in l.self.sums.now) (at l.self.of.x.now) l.k) l.i g.row.W l.q

abbrev pub invariant-loop-w : goal.invariant-loop-w
invariant-loop-w g l =
    Turning (quotients (twos l.self.of.table.now 0) (s_in l.self.sums.now) (at l.self.of.x.now) l.k) (quotients (twos l.self.of.table.now 0) (s_in l.self.sums.now) (at l.self.of.x.now) (l.k + 1)) l.i l.w g.row.W l.q
