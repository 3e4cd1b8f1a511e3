-- `sheet::Source::pressures_for` meets its contract. Assumes nothing.
use mathlib.Core.Path.{sym, ◌∙◌}
use Rattle.floats.proofs.Outcomes.{bind_yes, bind-no}
use Rattle.outcome.proofs.Exits.{met}
use Rattle.sheet.proofs.Shared.{pascal-no, pascal-ok}
use Rattle.sheet.proofs.Dispatch.{pressures-unread, pressures-pure, pressures-rest}
use Rattle.sheet.proofs.Source.pressures_for.Goals as goal

pub returns-in-Activity : goal.returns-in-Activity
returns-in-Activity c P copy = sym (pressures-unread _ _ _ _ _ c.task_or_flash.ensures c.in-Activity.is)

pub returns-in-BubblePressure : goal.returns-in-BubblePressure
returns-in-BubblePressure c P copy = c.pure_pressures.ensures ∙ sym (pressures-pure _ _ _ _ _ c.task_or_flash.ensures c.in-BubblePressure.is)

pub returns-in_err-p-in_default : goal.returns-in_err-p-in_default
returns-in_err-p-in_default c P copy = let n = c.in_default in
    let r = pressures-rest _ _ _ _ _ c.task_or_flash.ensures n.not-Activity n.not-BubblePressure n.not-DewPressure n.not-Stability in
    met _ c.from_residual.result c.from_residual.ensures.1 ∙ sym (r ∙ bind-no _ (pascal-no _ c.in_err-p-in_default.ensures))

pub returns-in_ok-p-in_default : goal.returns-in_ok-p-in_default
returns-in_ok-p-in_default c P copy = let n = c.in_default in
    let r = pressures-rest _ _ _ _ _ c.task_or_flash.ensures n.not-Activity n.not-BubblePressure n.not-DewPressure n.not-Stability in
    c.flash_pressures.ensures P copy ∙ sym (r ∙ bind_yes _ (pascal-ok _ c.in_ok-p-in_default.ensures))
