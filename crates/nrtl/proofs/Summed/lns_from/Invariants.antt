-- `nrtl::Summed::lns_from` meets its contract: each solvent j adds a term to every lane. Assumes nothing.
use Rattle.std.proofs.Common.{◌+◌}
use Rattle.floats.specs.Vector.{at}
use Rattle.jet.specs.Jets.{const_j}
use Rattle.floats.specs.Arithmetic.{0f}
use Rattle.excess.specs.Steps.{Side}
use Rattle.excess.proofs.Steps.{Turning}
use Rattle.nrtl.specs.On.{ln_in}
use Rattle.nrtl.proofs.Summed.lns_from.Given as goal

abbrev pub invariant-loop-w : goal.invariant-loop-w
invariant-loop-w g l = Turning (λ i. const_j 0f) (ln_in l.self.of.table.now l.self.sums.now l.self.ratios.now (at l.self.of.x.now) 0) l.i l.w g.row.W l.l

abbrev pub invariant-loop-j : goal.invariant-loop-j
invariant-loop-j g l = Side (ln_in l.self.of.table.now l.self.sums.now l.self.ratios.now (at l.self.of.x.now) l.j) l.i g.row.W l.l

abbrev pub invariant-loop-w-2 : goal.invariant-loop-w-2
invariant-loop-w-2 g l = Turning (ln_in l.self.of.table.now l.self.sums.now l.self.ratios.now (at l.self.of.x.now) l.j) (ln_in l.self.of.table.now l.self.sums.now l.self.ratios.now (at l.self.of.x.now) (l.j + 1)) l.i l.w g.row.W l.l
