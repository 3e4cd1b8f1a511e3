-- `question::moles_by_mass` meets its contract. Assumes nothing.
use mathlib.Core.Path.{◌∙◌}
use native.Mathlib.Nat.{min-le_right}
use Rattle.question.proofs.Laws.{normalize_vec}
use Rattle.question.proofs.moles_by_mass.Goals as goal

pub returns : goal.returns
returns c = c.normalize.ensures ∙ rw c.over_masses-amounts.ensures (normalize_vec _ _ _ (min-le_right _ 8))
