-- `liquid_stability::Tested::trial` meets its contract. The invariant: what is left to run from here makes the whole run. Assumes nothing.
use Rattle.liquid_stability.specs.Stability.{start_of}
use Rattle.liquid_stability.specs.Counted.{trial_counted}
use Rattle.thermo_models.specs.Activity.{activity_by_reason}
use Rattle.liquid_stability.proofs.Laws.{TrialLeft}
use Rattle.liquid_stability.proofs.Tested.trial.Given as goal

abbrev pub invariant-loop-done : goal.invariant-loop-done
invariant-loop-done g l =
    let E = activity_by_reason g.E.Reason.said l.self.table.now l.at in
    TrialLeft E l.self.o.tm_threshold l.self.m.n l.self.x.now l.self.d.now l.j l.self.o.max_iterations l.done l.ln_w l.fn.begun l.begun
    (trial_counted E l.self.o.tm_threshold l.self.m.n l.self.x.now l.self.d.now l.j l.self.o.max_iterations 0 (start_of l.self.x.now l.self.m.n l.j))
