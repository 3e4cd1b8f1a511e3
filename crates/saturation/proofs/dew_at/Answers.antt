-- `saturation::dew_at` meets its contract. Assumes nothing.
use Rattle.outcome.proofs.Exits.{met_reason}
use Rattle.saturation.proofs.Laws.{loop_start, loop_out, loop-refused, loop_done, loop_more}
use Rattle.saturation.proofs.dew_at.Goals as goal

pub loop-done-init : goal.loop-done-init
loop-done-init g c = search loop_start

pub returns-in_err-turn : goal.returns-in_err-turn
returns-in_err-turn g c = rw (met_reason g.E.Reason.said c.in_err-turn.field-0.0 c.from_residual.result c.from_residual.ensures.1) (loop-refused _ _ _ _ _ _ _ _ c.loop-done.invariant c.loop-done-test.true c.in_err-turn.ensures)

pub returns-then-turn-o : goal.returns-then-turn-o
returns-then-turn-o g c = loop_done _ _ _ _ _ _ _ _ c.loop-done.invariant c.loop-done-test.true c.in_ok-turn.ensures c.if-turn-o.true c.point.ensures

pub loop-done-preserved : goal.loop-done-preserved
loop-done-preserved g c = loop_more _ _ _ _ _ _ _ _ c.loop-done.invariant c.loop-done-test.true c.in_ok-turn.ensures c.if-turn-o.false

pub returns : goal.returns
returns g c = rw (g.met.E.Reason.of_refusal _ _ c.from.ensures) (loop_out _ _ _ _ _ _ _ _ c.loop-done.invariant c.loop-done-test.false)
