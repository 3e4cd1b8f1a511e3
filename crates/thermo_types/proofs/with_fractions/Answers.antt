-- `thermo_types::with_fractions` meets its contract. Assumes nothing.
use mathlib.Core.Path.{sym, ◌∙◌}
use Rattle.thermo_types.specs.Composition.{with_fractions}
use Rattle.thermo_types.proofs.Passing.{three}
use Rattle.thermo_types.proofs.with_fractions.Goals as goal

pub returns-then-are_fractions : goal.returns-then-are_fractions
unfolding with_fractions
returns-then-are_fractions c = three _ _ _ (sym c.are_fractions.ensures ∙ c.if-are_fractions.true)
