-- `nrtl::Summed::reduced` meets its contract. Assumes nothing.
use Rattle.std.proofs.Common.{◌≡◌}
use Rattle.floats.specs.Vector.{at}
use Rattle.nrtl.specs.Columns.{gibbs_from}
use Rattle.nrtl.specs.Lanes.{jet_in}
use Rattle.nrtl.proofs.Summed.reduced.Given as goal

abbrev pub invariant-loop-i : goal.invariant-loop-i
invariant-loop-i l = l.e ≡ gibbs_from (jet_in l.self.ratios.now) (at l.self.of.x.now) l.i
