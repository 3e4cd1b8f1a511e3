-- `liquid_stability::Tested::measure` meets its contract. The invariant: the three numbers over the solvents so far. Assumes nothing.
use mathlib.Core.Path.{◌≡◌}
use Rattle.liquid_stability.specs.Stability.{distance_of, change_of, apart_of}
use Rattle.liquid_stability.proofs.Tested.measure.Given as goal

abbrev pub invariant-loop-i : goal.invariant-loop-i
invariant-loop-i l = (l.measured.distance ≡ distance_of l.self.x.now l.ln_w l.lg l.self.d.now l.i) × (l.measured.change ≡ change_of l.self.x.now l.ln_w l.lg l.self.d.now l.i) × (l.measured.apart ≡ apart_of l.self.x.now l.w l.i)
