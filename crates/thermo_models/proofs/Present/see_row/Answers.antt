use native.Mathlib.Omega.{arith}
use Rattle.thermo_models.proofs.Pairs.{row-start, row-turn}
use Rattle.thermo_models.proofs.Present.see_row.Goals as goal

pub loop-j-init : goal.loop-j-init
loop-j-init c = row-start _ _ _ _ _ _

pub loop-j-preserved : goal.loop-j-preserved
loop-j-preserved c = row-turn _ _ _ _ _ _ _ (omega arith) c.visit-s.ensures c.loop-j.invariant
