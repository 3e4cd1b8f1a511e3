-- `tp_flash::Splitting::split_from` meets its contract. The invariant: what is left to run from here is the whole run. Assumes nothing.
use Prim.Native.Nat.{ℕ, ◌-◌}
use Rattle.floats.specs.Vector.{places}
use Rattle.floats.specs.Outcome.{Out}
use Rattle.counted.specs.Counted.{Counts}
use Rattle.thermo_models.specs.Activity.{activity_on}
use Rattle.tp_flash.specs.Split.{Split}
use Rattle.tp_flash.specs.Counted.{split_counted}
use Rattle.tp_flash.proofs.Splitting.split_from.Given as goal

abbrev pub invariant-loop-done : goal.invariant-loop-done
invariant-loop-done l =
    let run = split_counted (activity_on l.self.feed.table.now l.self.feed.at) l.self.feed.ps.now (places l.self.feed.at.n) l.self.p.0 l.self.feed.z.now l.self.feed.o.tolerance in
    (o : Out Split) (new : ℕ) → Counts l.begun o new (run (l.self.feed.o.max_iterations - l.done) l.done l.lg) → Counts l.fn.begun o new (run l.self.feed.o.max_iterations 0 l.start)
