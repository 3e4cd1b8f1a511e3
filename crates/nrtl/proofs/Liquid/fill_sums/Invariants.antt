-- `nrtl::Liquid::fill_sums` meets its contract. Assumes nothing.
use Prim.Native.Nat.{◌≤◌, ◌+◌, ◌-◌, ◌%◌}
use mathlib.Core.Path.{◌≡◌}
use Rattle.floats.specs.Vector.{at}
use Rattle.nrtl.specs.Lanes.{lanes}
use Rattle.nrtl.specs.On.{s_on, r_on}
use Rattle.nrtl.proofs.Liquid.fill_sums.Given as goal

abbrev pub invariant-loop-i : goal.invariant-loop-i
invariant-loop-i l = record {
  fours : l.i % 4 ≡ 0;
  within : l.i ≤ l.self.m.n + 1;
  s : l.sums ≡ lanes (s_on l.self.table.now (at l.self.x.now) l.self.m.n) 2 l.i l.initial.sums;
  r : l.ratios ≡ lanes (r_on l.self.table.now (at l.self.x.now) l.self.m.n) 3 l.i l.initial.ratios;
}

abbrev pub decreases-loop-i : goal.decreases-loop-i
decreases-loop-i l = l.self.m.n - l.i
