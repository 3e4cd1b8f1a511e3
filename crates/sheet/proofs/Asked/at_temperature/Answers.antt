-- `sheet::Asked::at_temperature` meets its contract. Assumes nothing.
use mathlib.Core.Path.{refl, ap}
use Rattle.floats.proofs.Outcomes.{bind_yes, bind-no}
use Rattle.sheet.specs.Sheet.{replied}
use Rattle.sheet.proofs.Laws.{same_as, quits}
use Rattle.sheet.proofs.Shared.{task-refused}
use Rattle.sheet.proofs.Asked.at_temperature.Goals as goal

pub returns-in_err-at : goal.returns-in_err-at
returns-in_err-at c = quits _ _ c.from_residual.ensures.1 (bind-no _ (task-refused _ _ (c.in_err-at.ensures.refused _ refl)))

pub returns : goal.returns
returns c = let h = c.in_ok-at.ensures in
    same_as (ap (replied _ _) (bind_yes _ (h.temperature _ refl))) (c.task_at.ensures.answers (h.tables _ refl) (h.pressures _ refl))
