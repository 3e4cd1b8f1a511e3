-- `nrtl::Liquid::columns` meets its contract: each solvent k adds a term to every lane. Assumes nothing.
use Rattle.std.proofs.Common.{◌+◌}
use Rattle.floats.specs.Vector.{at}
use Rattle.jet.specs.Planes.{jets}
use Rattle.excess.specs.Steps.{Side}
use Rattle.excess.proofs.Steps.{Turning}
use Rattle.nrtl.specs.Columns.{col_s}
use Rattle.nrtl.proofs.Liquid.columns.Given as goal

abbrev pub invariant-loop-k : goal.invariant-loop-k
invariant-loop-k g l = Side (col_s (jets l.self.table.now l.b) (at l.self.x.now) l.k) l.i g.row.W l.s

abbrev pub invariant-loop-w : goal.invariant-loop-w
invariant-loop-w g l = Turning (col_s (jets l.self.table.now l.b) (at l.self.x.now) l.k) (col_s (jets l.self.table.now l.b) (at l.self.x.now) (l.k + 1)) l.i l.w g.row.W l.s
