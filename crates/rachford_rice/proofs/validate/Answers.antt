-- `rachford_rice::validate` meets its contract. Assumes nothing.
use mathlib.Core.Path.{sym, refl}
use Rattle.rachford_rice.proofs.Laws.{valid}
use Rattle.rachford_rice.proofs.validate.Goals as goal

pub returns-then-are_ratios : goal.returns-then-are_ratios
returns-then-are_ratios c = sym (valid _ _ _ _ c.are_fractions.ensures c.are_ratios.ensures (rw (c.if-are_fractions.true, c.if-are_ratios.true) refl))
