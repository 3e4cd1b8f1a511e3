-- `sheet::Source::ready` meets its contract. Assumes nothing.
use mathlib.Core.Path.{◌∙◌}
use Rattle.floats.proofs.Outcomes.{bind_yes, bind-no}
use Rattle.sheet.proofs.Shared.{kelvin-no, kelvin-ok, pressures-copied, made-no, made-ok}
use Rattle.sheet.proofs.Source.ready.Goals as goal

pub returns-in_err-t : goal.returns-in_err-t
returns-in_err-t c = made-no _ _ _ _ _ _ c.from_residual.ensures.1 (bind-no _ (kelvin-no _ c.in_err-t.ensures))

pub returns-in_err-ps : goal.returns-in_err-ps
returns-in_err-ps c = let p = pressures-copied _ _ _ _ _ _ c.in_err-ps.ensures in
    made-no _ _ _ _ _ _ c.from_residual-in_err-ps.ensures.1 (bind_yes _ (kelvin-ok _ c.in_ok-t.ensures) ∙ p)

pub returns : goal.returns
returns c = let a = c.tables_at.ensures in
    let p = pressures-copied _ _ _ _ _ _ c.in_ok-ps.ensures in
    made-ok _ _ _ _ (rw a.0 (kelvin-ok _ c.in_ok-t.ensures)) (rw a.0 p) a.1
