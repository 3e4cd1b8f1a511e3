-- `wilson::state` meets its contract. Assumes nothing.
use mathlib.Core.Path.{◌≡◌}
use native.Mathlib.Omega.{arith}
use Rattle.floats.specs.Vector.{places}
use Rattle.excess.proofs.Passing.{gives}
use Rattle.wilson.proofs.Whole.{state_is}
use Rattle.wilson.proofs.state.Goals as goal

pub returns : goal.returns
returns c =
    let (lg0, sl0) = c.requires in
    let q = c.args.of in
    let k : places q.m.n ≡ q.m.n = omega arith in
    gives (state_is q.table.now _ q.m.n c.args.t.0 (omega arith) c.fill_sums-total.ensures (rw (lg0, sl0) at c.fill_lns.ensures) c.neg.ensures) (rw k at c.finite_state.ensures)
