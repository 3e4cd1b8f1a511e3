-- `queue::answer` meets its contract. Assumes nothing.
use mathlib.Core.Path.{sym}
use native.Mathlib.Omega.{arith}
use Rattle.floats.specs.Outcome.{bind}
use Rattle.sheet.proofs.Parts.{ends, ends_exit, leaves}
use Rattle.queue.specs.Queue.{queue_of}
use Rattle.queue.proofs.Calls.{questions-no, room-no, all_put, few-questions}
use Rattle.queue.proofs.answer.Goals as goal

pub returns-in_err-head : goal.returns-in_err-head
unfolding queue_of bind
returns-in_err-head c = ends_exit _ _ c.from_residual.ensures.1 (rw (sym c.in_err-head.ensures))

pub returns-then-not-questions_right : goal.returns-then-not-questions_right
returns-then-not-questions_right c = ends (questions-no _ _ _ _ c.in_ok-head.ensures c.rule_of-rule.ensures c.if-not-questions_right.ensures)

pub overflow_mul-count : goal.overflow_mul-count
overflow_mul-count c = let few = few-questions _ _ c.if-not-questions_right.ensures in omega (arith, few)

pub returns-then-out-count : goal.returns-then-out-count
returns-then-out-count c = ends (room-no _ _ _ _ c.in_ok-head.ensures c.rule_of-rule.ensures c.if-not-questions_right.ensures c.if-out-count.true)

pub put_questions-requires : goal.put_questions-requires
put_questions-requires c = (c.if-out-count.false, sym c.if-not-questions_right.ensures)

pub returns : goal.returns
returns c = rw c.put_questions.ensures (leaves _ (all_put _ _ _ _ c.in_ok-head.ensures c.rule_of-rule.ensures c.if-not-questions_right.ensures c.if-out-count.false))
