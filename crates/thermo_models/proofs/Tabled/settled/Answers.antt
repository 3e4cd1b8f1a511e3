-- `thermo_models::Tabled::settled` meets its contract. Assumes nothing.
use Rattle.floats.specs.Vector.{at, places}
use Rattle.floats.specs.Outcome.{no, bind}
use Rattle.outcome.proofs.Exits.{met_refusal}
use Rattle.excess.proofs.Passing.{state_first}
use Rattle.thermo_models.specs.Activity.{settled_by, settled_of}
use Rattle.thermo_models.proofs.Tabled.settled.Goals as goal

pub returns-in_err-with_state : goal.returns-in_err-with_state
unfolding settled_of settled_by bind
returns-in_err-with_state g c =
    let s = c.args.self in
    let m = c.in-Nrtl-Err in
    rw (m.is-0, m.is-1, state_first s.t.0 (at c.args.x.now) (places s.n) (no (g.E.Reason.said m.reason)), ← c.in_err-with_state.ensures)
    (met_refusal g.E.Reason.said g.met.E.Reason.of_refusal _ _ c.from_residual.ensures.1)

pub returns-in-Nrtl-Err : goal.returns-in-Nrtl-Err
unfolding settled_of settled_by bind
returns-in-Nrtl-Err g c =
    let s = c.args.self in
    let m = c.in-Nrtl-Err in
    rw (m.is-0, m.is-1, state_first s.t.0 (at c.args.x.now) (places s.n) (no (g.E.Reason.said m.reason)), ← c.in_ok-with_state.ensures)
