-- `excess::with_state` meets its contract. Assumes nothing.
use mathlib.Core.Path.{sym}
use Rattle.floats.specs.Outcome.{need}
use Rattle.excess.proofs.Passing.{positive_first}
use Rattle.excess.proofs.with_state.Goals as goal

pub returns-then-not-positive : goal.returns-then-not-positive
unfolding need
returns-then-not-positive c = rw (positive_first, ← c.value.ensures, sym c.if-not-positive.ensures)

pub returns : goal.returns
unfolding need
returns c = rw (positive_first, ← c.value.ensures, sym c.if-not-positive.ensures) c.with_fractions.ensures
