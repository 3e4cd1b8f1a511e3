-- `jet::keep` meets its contract. Assumes nothing.
use Rattle.std.proofs.Common.{◌≡◌}
use Rattle.floats.specs.Vector.{at}
use Rattle.jet.specs.Planes.{spread}
use Rattle.jet.proofs.keep.Given as goal

abbrev pub invariant-loop-k : goal.invariant-loop-k
invariant-loop-k g l = l.table ≡ spread (at l.cells) l.e l.k l.initial.table
