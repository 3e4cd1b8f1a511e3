-- `saturation_temperature::solve_temperature` meets its contract. The loop's invariant: what is left to run from here is the whole run, of each f that is evaluated. Assumes nothing.
use Rattle.std.proofs.Common.{◌≡◌, ◌-◌, Float}
use Rattle.floats.specs.Outcome.{Out}
use Rattle.saturation_temperature.specs.Search.{Point, search_from, solve_temperature}
use Rattle.saturation_temperature.specs.Answers.{Evaluates}
use Rattle.saturation_temperature.proofs.solve_temperature.Given as goal

abbrev pub invariant-loop-done : goal.invariant-loop-done
invariant-loop-done g l =
    (f : Float → Out Point) → Evaluates (goal.F-post g l.f) f
    → search_from f l.o.tolerance (l.done-end - l.done) l.done l.bracket ≡ solve_temperature f l.o
