-- `nrtl::Summed::fill_lns` meets its contract. Assumes nothing.
use Prim.Native.Nat.{◌≤◌, ◌+◌, ◌-◌, ◌%◌}
use mathlib.Core.Path.{◌≡◌}
use Rattle.floats.specs.Vector.{at}
use Rattle.excess.specs.Steps.{GammasTo}
use Rattle.nrtl.specs.On.{ln_in}
use Rattle.nrtl.proofs.Summed.fill_lns.Given as goal

abbrev pub invariant-loop-i : goal.invariant-loop-i
invariant-loop-i l = record {
  fours : l.i % 4 ≡ 0;
  within : l.i ≤ l.self.of.m.n + 1;
  lns : GammasTo (ln_in l.self.of.table.now l.self.sums.now l.self.ratios.now (at l.self.of.x.now) l.self.of.m.n) l.i l.initial.ln_gamma l.initial.slopes l.ln_gamma l.slopes;
}

abbrev pub decreases-loop-i : goal.decreases-loop-i
decreases-loop-i l = l.self.of.m.n - l.i
