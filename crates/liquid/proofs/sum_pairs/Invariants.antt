-- `liquid::sum_pairs` meets its contract: the loop keeps the three sums so far. Assumes nothing.
use mathlib.Core.Path.{◌≡◌}
use Prim.Native.Nat.{◌*◌}
use Rattle.liquid.specs.Vapor.{sums_of}
use Rattle.liquid.proofs.sum_pairs.Given as goal

abbrev pub invariant-loop-i : goal.invariant-loop-i
invariant-loop-i l = l.z ≡ sums_of l.n l.e l.t_r l.theta (2 * l.i)
