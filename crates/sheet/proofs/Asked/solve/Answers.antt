-- `sheet::Asked::solve` meets its contract. Assumes nothing.
use mathlib.Core.Path.{sym, ap, ◌∙◌}
use Rattle.floats.proofs.Outcomes.{bind-no}
use Rattle.sheet.specs.Tasks.{task8, task9}
use Rattle.sheet.specs.Asked.{split}
use Rattle.sheet.specs.Sheet.{replied}
use Rattle.sheet.proofs.Laws.{same_as, quits}
use Rattle.sheet.proofs.Replies.{split-same}
use Rattle.sheet.proofs.Dispatch.{numbered, solved_under, solved_8, solved_9, solved_other, solved_none}
use Rattle.sheet.proofs.Asked.solve.Goals as goal

pub returns-in_err-task-clause-answers : goal.returns-in_err-task-clause-answers
returns-in_err-task-clause-answers c = quits _ _ c.from_residual.ensures.1 (bind-no _ (solved_none _ _ c.in_err-task.ensures))

pub returns-in-BubbleTemperature-clause-answers : goal.returns-in-BubbleTemperature-clause-answers
returns-in-BubbleTemperature-clause-answers c = let e = numbered _ c.in_ok-task.ensures in same_as (ap (replied _ _) (solved_under _ _ _ c.in-BubbleTemperature.is e)) (c.at_pressure.ensures e)

pub returns-in-Split-clause-answers : goal.returns-in-Split-clause-answers
unfolding task8 split
returns-in-Split-clause-answers c = let e = solved_8 _ _ _ c.in-Split.is (numbered _ c.in_ok-task.ensures) in
    same_as (ap (replied _ _) (e ∙ ap split (sym c.rachford_rice-found.ensures))) c.split.ensures

pub returns-in-NegativeSplit-clause-answers : goal.returns-in-NegativeSplit-clause-answers
unfolding task9
returns-in-NegativeSplit-clause-answers c = let e = solved_9 _ _ _ c.in-NegativeSplit.is (numbered _ c.in_ok-task.ensures) in
    same_as (ap (replied _ _) (e ∙ split-same _ ∙ ap split (sym c.rachford_rice_negative-found.ensures))) c.split-in-NegativeSplit.ensures

pub returns-in_default-clause-answers : goal.returns-in_default-clause-answers
returns-in_default-clause-answers c = let n = c.in_default in
    same_as (ap (replied _ _) (solved_other _ _ _ n.not-BubbleTemperature n.not-DewTemperature n.not-Split n.not-NegativeSplit (numbered _ c.in_ok-task.ensures))) c.at_temperature.ensures
