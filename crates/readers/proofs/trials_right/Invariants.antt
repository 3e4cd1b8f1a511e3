-- `readers::trials_right` meets its contract. A scan: so far every block is a trial. Assumes nothing.
use mathlib.Core.Bool.{true}
use mathlib.Core.Path.{◌≡◌}
use Prim.Native.Nat.{◌≤◌}
use Rattle.readers.specs.Readers.{trials_right}
use Rattle.readers.proofs.trials_right.Given as goal

abbrev pub invariant-loop-k : goal.invariant-loop-k
invariant-loop-k l = (l.k ≤ l.n) × (trials_right l.s l.k ≡ true)
