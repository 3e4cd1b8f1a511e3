-- `thermo_models::Solvents::pures` meets its contract, by what its parts fill. Assumes nothing.
use mathlib.Core.Path.{sym}
use native.Mathlib.Omega.{arith}
use Rattle.thermo_models.proofs.Pures.{pures_refused, pures_passed}
use Rattle.thermo_models.proofs.Solvents.pures.Goals as goal

pub returns-then-not-all_representable : goal.returns-then-not-all_representable
returns-then-not-all_representable c = let h = c.fill_logarithms.ensures in
    sym (pures_refused _ _ _ (omega arith) c.requires h.ls_after h.dps_after h.cs_after c.pressures-pressure.ensures c.all_representable.ensures c.if-not-all_representable.true)

pub returns : goal.returns
returns c = let h = c.fill_logarithms.ensures in
    sym (pures_passed _ _ _ (omega arith) c.requires h.ls_after h.dps_after h.cs_after c.pressures-pressure.ensures c.all_representable.ensures c.if-not-all_representable.false)
