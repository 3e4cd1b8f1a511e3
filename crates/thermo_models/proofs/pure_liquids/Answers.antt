-- `thermo_models::pure_liquids` meets its contract: the domain's test, then the liquids. Assumes nothing.
use Rattle.thermo_models.proofs.Pures.{covers}
use Rattle.thermo_models.proofs.pure_liquids.Goals as goal

pub pures-requires : goal.pures-requires
pures-requires c = rw (← c.of-m.ensures, ← c.value-t.ensures) at (covers _ _ _ c.if-not-check_temperature.ensures)
