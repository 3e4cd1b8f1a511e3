-- `distance::answer` meets its contract. Assumes nothing.
use Rattle.outcome.proofs.Exits.{met}
use Rattle.distance.proofs.Calls.{unopened, task-unread, task-refused, asked-no, asked-seven, asked-ok}
use Rattle.distance.proofs.answer.Goals as goal

pub returns-in_err-head : goal.returns-in_err-head
returns-in_err-head c = rw (met c.in_err-head.field-0.0 c.from_residual.result c.from_residual.ensures.1) (unopened _ _ c.in_err-head.ensures)

pub returns-in_err-task : goal.returns-in_err-task
returns-in_err-task c = let r = c.from_residual-in_err-task in
    rw (met c.in_err-task.field-0.0 r.result r.ensures.1) (task-unread _ _ c.in_ok-head.ensures c.rule_of-rule.ensures _ c.in_err-task.ensures)

pub returns-in_default : goal.returns-in_default
returns-in_default c = task-refused _ _ c.in_ok-head.ensures c.rule_of-rule.ensures c.in_ok-task.ensures c.in_default.not-Flash

pub returns-in_err-q : goal.returns-in_err-q
returns-in_err-q c = let r = c.from_residual-in_err-q in
    rw (met c.in_err-q.field-0.0 r.result r.ensures.1) (asked-no _ _ c.in_ok-head.ensures c.rule_of-rule.ensures c.in_ok-task.ensures c.in-Flash.is c.in_err-q.ensures)

pub from_question-requires : goal.from_question-requires
from_question-requires c = asked-seven _ _ c.in_ok-head.ensures c.rule_of-rule.ensures c.in_ok-task.ensures c.in-Flash.is c.in_ok-q.ensures

pub returns : goal.returns
returns c = asked-ok _ _ c.in_ok-head.ensures c.rule_of-rule.ensures c.in_ok-task.ensures c.in-Flash.is c.in_ok-q.ensures c.from_question.ensures
