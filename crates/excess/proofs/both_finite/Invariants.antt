-- `excess::both_finite` meets its contract. Assumes nothing.
use Rattle.std.proofs.Common.{◌≡◌}
use Rattle.floats.specs.Vector.{at}
use Rattle.thermo_types.specs.Composition.{all_finite}
use Rattle.excess.proofs.both_finite.Given as goal

abbrev pub invariant-loop-i : goal.invariant-loop-i
invariant-loop-i l = (l.of_values ≡ all_finite (at l.values) l.i) × (l.of_slopes ≡ all_finite (at l.slopes) l.i)
