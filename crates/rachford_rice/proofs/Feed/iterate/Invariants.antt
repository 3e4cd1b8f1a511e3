-- `rachford_rice::Feed::iterate` meets its contract. The loop's invariant: what is left to run from here gives the same as the whole run. Assumes nothing.
use Prim.Native.Nat.{◌-◌}
use mathlib.Core.Path.{◌≡◌}
use Rattle.floats.specs.Arithmetic.{½}
use Rattle.floats.specs.Vector.{at}
use Rattle.rachford_rice.specs.Rachford.{iterate}
use Rattle.rachford_rice.proofs.Feed.iterate.Given as goal

abbrev pub invariant-loop-done : goal.invariant-loop-done
invariant-loop-done l = iterate (at l.self.z.now) (at l.self.k.now) l.self.m.n (l.limit - l.done) l.done l.at.lo l.at.hi l.at.beta ≡ iterate (at l.self.z.now) (at l.self.k.now) l.self.m.n l.limit 0 l.fn.lo l.fn.hi ½
