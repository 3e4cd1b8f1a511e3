-- `sheet::answer_ready` meets its contract: nothing is offered. Assumes nothing.
use mathlib.Core.Path.{ap, ◌∙◌}
use Rattle.floats.proofs.Outcomes.{bind_yes, bind-no}
use Rattle.records.proofs.Offered.{copy-nothing}
use Rattle.sheet.specs.Sheet.{replied, answer_to}
use Rattle.sheet.proofs.Laws.{same_as, quits_reason}
use Rattle.sheet.proofs.Shared.{task-refused}
use Rattle.sheet.proofs.Dispatch.{short, room_long, fronted, front_long, solved_at}
use Rattle.sheet.proofs.answer_ready.Goals as goal

pub returns-in_default-clause-answers : goal.returns-in_default-clause-answers
returns-in_default-clause-answers g c e h = rw (g.met.E.Reason.of_refusal _ _ c.from.ensures) (short _ c.in_default.ensures.cases)

pub returns-in_err-at-clause-answers : goal.returns-in_err-at-clause-answers
unfolding answer_to
returns-in_err-at-clause-answers g c e h = let f = c.in-Some.ensures.cases in fronted f (room_long f) (quits_reason g.E.Reason.said _ _ c.from_residual.ensures.1 (bind-no _ (solved_at _ _ e ∙ task-refused _ _ (h.refused _ c.in_err-at.was))))

pub returns-clause-answers : goal.returns-clause-answers
unfolding answer_to
returns-clause-answers g c e h = let w = c.in_ok-at.was in
    let a = rw (c.of-asked.ensures, copy-nothing) at c.task_at.ensures.answers in
    fronted c.in-Some.ensures.cases c.task_at.ensures.long (same_as (ap (replied _ _) (solved_at _ _ e ∙ bind_yes _ (h.temperature _ w))) (a (h.tables _ w) (h.pressures _ w)))

pub returns-in_err-at-clause-long : goal.returns-in_err-at-clause-long
returns-in_err-at-clause-long g c = let f = c.in-Some.ensures.cases in front_long _ f (room_long f)

pub returns-clause-long : goal.returns-clause-long
returns-clause-long g c = front_long _ c.in-Some.ensures.cases c.task_at.ensures.long
