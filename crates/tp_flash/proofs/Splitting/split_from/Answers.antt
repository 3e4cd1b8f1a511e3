use Rattle.outcome.proofs.Exits.{met}
use Rattle.tp_flash.proofs.Laws.{loop_out, loop-refused, loop_done, loop_more}
use Rattle.tp_flash.proofs.Splitting.split_from.Goals as goal

pub returns-in_err-turn : goal.returns-in_err-turn
returns-in_err-turn c = rw (met c.in_err-turn.field-0.0 c.from_residual.result c.from_residual.ensures.1) (loop-refused _ _ _ _ _ _ _ _ _ c.loop-done.invariant c.loop-done-test.true c.in_err-turn.ensures)

pub returns-then-turn-self : goal.returns-then-turn-self
returns-then-turn-self c = loop_done _ _ _ _ _ _ _ _ _ c.loop-done.invariant c.loop-done-test.true c.in_ok-turn.ensures c.if-turn-self.true

pub loop-done-preserved : goal.loop-done-preserved
loop-done-preserved c = loop_more _ _ _ _ _ _ _ _ _ c.loop-done.invariant c.loop-done-test.true c.in_ok-turn.ensures c.if-turn-self.false

pub returns : goal.returns
returns c = loop_out _ _ _ _ _ _ _ _ _ c.loop-done.invariant c.loop-done-test.false
