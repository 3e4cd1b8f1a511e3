-- `liquid_stability::Tested::trials` meets its contract. The invariant: the trials so far, and the evaluations that they began. Assumes nothing.
use Prim.Native.Nat.{◌≤◌}
use Rattle.floats.specs.Outcome.{ok}
use Rattle.counted.specs.Counted.{Counts}
use Rattle.liquid_stability.specs.Counted.{trials_counted}
use Rattle.thermo_models.specs.Activity.{activity_by_reason}
use Rattle.liquid_stability.proofs.Tested.trials.Given as goal

abbrev pub invariant-loop-j : goal.invariant-loop-j
invariant-loop-j g l = (l.all.count ≤ l.j)
    × Counts l.fn.begun (ok l.all) l.begun (trials_counted (activity_by_reason g.E.Reason.said l.self.table.now l.at) l.self.m.n l.self.o l.self.x.now l.self.d.now l.j)
