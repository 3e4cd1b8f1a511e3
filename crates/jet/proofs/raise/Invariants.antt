-- `jet::raise` meets its contract. Assumes nothing.
use Rattle.std.proofs.Common.{◌≡◌}
use Rattle.jet.specs.Lanes.{raised_to}
use Rattle.jet.proofs.raise.Given as goal

abbrev pub invariant-loop-k : goal.invariant-loop-k
invariant-loop-k g l = l.lanes ≡ raised_to l.k l.initial.lanes
