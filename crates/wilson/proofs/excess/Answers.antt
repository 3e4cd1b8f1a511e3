-- `wilson::excess` meets its contract. Assumes nothing.
use Rattle.outcome.proofs.Exits.{met}
use Rattle.excess.proofs.Passing.{gives-no, asked-no, asked-ok}
use Rattle.wilson.specs.On.{wilson_on}
use Rattle.wilson.proofs.excess.Goals as goal

pub returns-in_err-with_state : goal.returns-in_err-with_state
unfolding wilson_on
returns-in_err-with_state c =
    let k = c.clear.ensures in
    asked-no _ _ _ _ c.in_err-with_state.ensures (gives-no _ (met _ _ c.from_residual.ensures.1) k.cleared_values k.cleared_slopes)

pub returns : goal.returns
unfolding wilson_on
returns c = asked-ok _ _ _ _ c.in_ok-with_state.ensures (rw c.of-m.ensures at c.state_by_count.ensures)
