use Rattle.thermo_models.proofs.Pures.{pressures-turn}
use Rattle.thermo_models.proofs.pressures.Goals as goal

pub loop-i-preserved : goal.loop-i-preserved
loop-i-preserved c = pressures-turn c.args.ls.now c.loop-i.i c.exp_two.ensures c.loop-i.invariant
