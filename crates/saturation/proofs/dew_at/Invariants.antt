-- `saturation::dew_at` meets its contract. The loop's invariant: what is left to run from here is the whole run. Assumes nothing.
use Prim.Native.Nat.{ℕ, ◌-◌}
use Rattle.floats.specs.Vector.{places}
use Rattle.floats.specs.Outcome.{Out}
use Rattle.counted.specs.Counted.{Counts}
use Rattle.thermo_models.specs.Activity.{activity_by_reason}
use Rattle.saturation.specs.Saturation.{Dew}
use Rattle.saturation.specs.Counted.{dew_loop_counted, dew_counted}
use Rattle.saturation.proofs.dew_at.Given as goal

abbrev pub invariant-loop-done : goal.invariant-loop-done
invariant-loop-done g l =
    (o : Out Dew) (new : ℕ) → Counts l.begun o new (dew_loop_counted (activity_by_reason g.E.Reason.said l.table l.fn.s) l.ps l.vapor.m.n l.y l.o.tolerance (l.done-end - l.done) l.done l.lg)
    → Counts l.fn.begun o new (dew_counted (activity_by_reason g.E.Reason.said l.table l.fn.s) l.ps (places l.fn.s.n) l.o l.y)
