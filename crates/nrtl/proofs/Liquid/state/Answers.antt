-- `nrtl::Liquid::state` meets its contract. Assumes nothing.
use mathlib.Core.Path.{◌≡◌}
use native.Mathlib.Omega.{arith}
use Rattle.floats.specs.Vector.{places}
use Rattle.excess.proofs.Passing.{gives}
use Rattle.nrtl.proofs.Whole.{state_is}
use Rattle.nrtl.proofs.Liquid.state.Goals as goal

pub returns : goal.returns
returns c =
    let (lg0, sl0) = c.requires in
    let s = c.args.self in
    let p = c.clear_past.ensures in
    let k : places s.m.n ≡ s.m.n = omega arith in
    gives
    (state_is s.table.now _ s.m.n c.args.t.0 s.m.few c.fill_sums.ensures.s c.fill_sums.ensures.r c.reduced.ensures (rw (lg0, sl0) at c.fill_lns.ensures) p.values p.slopes)
    (rw k at c.finite_state.ensures)
