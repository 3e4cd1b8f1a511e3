-- `excess::state` meets its contract. Assumes nothing.
use mathlib.Core.Path.{refl}
use Rattle.excess.proofs.Passing.{gives-no}
use Rattle.excess.proofs.Tests.{state_yes, state-no}
use Rattle.excess.proofs.state.Goals as goal

pub returns-then-not-energies_finite : goal.returns-then-not-energies_finite
returns-then-not-energies_finite c =
    let k = c.clear.ensures in
    state-no _ _ _ _ c.value.ensures c.energies_at-r.ensures c.energies_finite.ensures c.if-not-energies_finite.true (gives-no 25 refl k.cleared_values k.cleared_slopes)

pub returns : goal.returns
returns c = state_yes _ _ _ _ c.value.ensures c.energies_at-r.ensures c.energies_finite.ensures c.if-not-energies_finite.false
