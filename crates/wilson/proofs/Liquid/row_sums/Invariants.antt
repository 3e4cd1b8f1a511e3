-- `wilson::Liquid::row_sums` meets its contract: each solvent j adds a term to every lane. Assumes nothing.
use Rattle.std.proofs.Common.{◌+◌}
use Rattle.floats.specs.Vector.{at}
use Rattle.jet.specs.Planes.{jets}
use Rattle.excess.specs.Steps.{Side}
use Rattle.excess.proofs.Steps.{Turning}
use Rattle.wilson.specs.Sums.{row_s}
use Rattle.wilson.proofs.Liquid.row_sums.Given as goal

abbrev pub invariant-loop-j : goal.invariant-loop-j
invariant-loop-j g l = Side (row_s (jets l.self.table.now 0) (at l.self.x.now) l.j) l.i g.row.W l.s

abbrev pub invariant-loop-w : goal.invariant-loop-w
invariant-loop-w g l = Turning (row_s (jets l.self.table.now 0) (at l.self.x.now) l.j) (row_s (jets l.self.table.now 0) (at l.self.x.now) (l.j + 1)) l.i l.w g.row.W l.s
