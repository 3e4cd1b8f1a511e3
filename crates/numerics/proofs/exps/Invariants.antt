use Rattle.std.proofs.Common.{◌≡◌, ◌%◌, ◌≤◌}
use Rattle.floats.specs.Vector.{at, vec}
use Rattle.numerics.specs.Numerics.{exp_of}
use Rattle.numerics.proofs.exps.Given as goal

abbrev pub invariant-loop-i : goal.invariant-loop-i
invariant-loop-i l = (l.i % 2 ≡ 0) × (l.i ≤ 8) × (l.e ≡ vec (λ k. exp_of (at l.v k)) l.i)
