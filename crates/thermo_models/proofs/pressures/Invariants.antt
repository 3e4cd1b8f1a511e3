-- `thermo_models::pressures` meets its contract. Assumes nothing.
use mathlib.Core.Path.{◌≡◌}
use Prim.Native.Nat.{◌*◌}
use Rattle.floats.specs.Vector.{at, vec}
use Rattle.numerics.specs.Numerics.{exp_of}
use Rattle.thermo_models.proofs.pressures.Given as goal

abbrev pub invariant-loop-i : goal.invariant-loop-i
invariant-loop-i l = l.ps ≡ vec (λ k. exp_of (at l.ls k)) (2 * l.i)
