-- `nrtl::excess` meets its contract. Assumes nothing.
use Rattle.floats.specs.Vector.{at, places}
use Rattle.outcome.proofs.Exits.{met_reason, met_refusal}
use Rattle.excess.proofs.Passing.{gives, gives-no, gives-ok, gives-refusal}
use Rattle.nrtl.proofs.Questions.{fractions-refused, alphas-refused, asked}
use Rattle.nrtl.proofs.excess.Goals as goal

pub returns-in_err-with_state : goal.returns-in_err-with_state
returns-in_err-with_state g c =
    let a = c.args in
    let k = c.clear.ensures in
    gives (fractions-refused a.table.now (places a.n) a.t.0 (at a.x.now) _ c.in_err-with_state.ensures)
    (gives-no _ (met_refusal g.E.Reason.said g.met.E.Reason.of_refusal _ _ c.from_residual.ensures.1) k.cleared_values k.cleared_slopes)

pub returns-in_err-alphas : goal.returns-in_err-alphas
returns-in_err-alphas g c =
    let a = c.args in
    let k = c.clear.ensures in
    rw c.in_err-alphas.was
    (gives (alphas-refused a.table.now (places a.n) a.t.0 (at a.x.now) _ c.in_ok-with_state.ensures)
    (gives-no _ (met_reason g.E.Reason.said _ _ c.from_residual-in_err-alphas.ensures.1) k.cleared_values k.cleared_slopes))

pub returns-in_err-state_by_count : goal.returns-in_err-state_by_count
returns-in_err-state_by_count g c =
    let a = c.args in
    rw c.in_ok-alphas.was
    (gives (asked a.table.now (places a.n) a.t.0 (at a.x.now) _ c.in_ok-with_state.ensures)
    (gives-refusal g.E.Reason.said (met_refusal g.E.Reason.said g.met.E.Reason.of_refusal _ _ c.from_residual-in_err-state_by_count.ensures.1)
    (rw c.of-m.ensures at c.in_err-state_by_count.ensures)))

pub returns : goal.returns
returns g c =
    let a = c.args in
    rw c.in_ok-alphas.was
    (gives (asked a.table.now (places a.n) a.t.0 (at a.x.now) _ c.in_ok-with_state.ensures) (gives-ok g.E.Reason.said (rw c.of-m.ensures at c.in_ok-state_by_count.ensures)))
