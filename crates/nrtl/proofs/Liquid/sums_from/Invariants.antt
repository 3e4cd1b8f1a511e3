-- `nrtl::Liquid::sums_from` meets its contract. Assumes nothing.
use mathlib.Core.Path.{◌≡◌}
use Rattle.floats.specs.Vector.{at}
use Rattle.nrtl.specs.Lanes.{lanes_from}
use Rattle.nrtl.specs.On.{s_on, r_on}
use Rattle.nrtl.proofs.Liquid.sums_from.Given as goal

abbrev pub invariant-loop-w : goal.invariant-loop-w
invariant-loop-w g l = record {
  s : l.sums ≡ lanes_from (s_on l.fn.self.table.now (at l.fn.self.x.now) l.fn.self.m.n) 2 l.i l.w l.initial.sums;
  r : l.ratios ≡ lanes_from (r_on l.fn.self.table.now (at l.fn.self.x.now) l.fn.self.m.n) 3 l.i l.w l.initial.ratios;
}
