use Rattle.outcome.proofs.Exits.{met}
use Rattle.saturation_temperature.proofs.Searching.{low-no, high-no, low_found, high_found, unbracketed, bracketed, search_out, turn-no, turn_found, turn_collapsed, turn_more}
use Rattle.saturation_temperature.proofs.solve_temperature.Goals as goal

pub returns-in_err-low-clause-root : goal.returns-in_err-low-clause-root
returns-in_err-low-clause-root g c = λ f h.
    rw (met c.in_err-low.field-0.0 c.from_residual.result c.from_residual.ensures.1) (low-no f c.args.o (h _ _ c.in_err-low.ensures))

pub returns-in_err-high-clause-root : goal.returns-in_err-high-clause-root
returns-in_err-high-clause-root g c = λ f h.
    rw (met c.in_err-high.field-0.0 c.from_residual-in_err-high.result c.from_residual-in_err-high.ensures.1) (high-no f c.args.o (h _ _ c.in_ok-low.ensures) (h _ _ c.in_err-high.ensures))

pub returns-then-abs-o-clause-root : goal.returns-then-abs-o-clause-root
returns-then-abs-o-clause-root g c = λ f h. low_found f c.args.o (h _ _ c.in_ok-low.ensures) (h _ _ c.in_ok-high.ensures) c.abs.ensures c.if-abs-o.true

pub returns-then-abs-o-2-clause-root : goal.returns-then-abs-o-2-clause-root
returns-then-abs-o-2-clause-root g c = λ f h.
    high_found f c.args.o (h _ _ c.in_ok-low.ensures) (h _ _ c.in_ok-high.ensures) c.abs.ensures c.if-abs-o.false c.abs-2.ensures c.if-abs-o-2.true

pub returns-then-low-high-clause-root : goal.returns-then-low-high-clause-root
returns-then-low-high-clause-root g c = λ f h.
    unbracketed f c.args.o (h _ _ c.in_ok-low.ensures) (h _ _ c.in_ok-high.ensures) c.abs.ensures c.if-abs-o.false c.abs-2.ensures c.if-abs-o-2.false c.if-low-high.true

pub loop-done-init : goal.loop-done-init
loop-done-init g c = λ f h.
    bracketed f c.args.o (h _ _ c.in_ok-low.ensures) (h _ _ c.in_ok-high.ensures) c.abs.ensures c.if-abs-o.false c.abs-2.ensures c.if-abs-o-2.false c.if-low-high.false c.middle.ensures

pub returns-in_err-point-clause-root : goal.returns-in_err-point-clause-root
returns-in_err-point-clause-root g c = λ f h.
    rw (met c.in_err-point.field-0.0 c.from_residual-in_err-point.result c.from_residual-in_err-point.ensures.1)
    (turn-no f _ _ _ _ (c.loop-done.invariant f h) c.loop-done-test.true (h _ _ c.in_err-point.ensures))

pub returns-then-abs-o-3-clause-root : goal.returns-then-abs-o-3-clause-root
returns-then-abs-o-3-clause-root g c = λ f h.
    turn_found f _ _ _ _ (c.loop-done.invariant f h) c.loop-done-test.true (h _ _ c.in_ok-point.ensures) c.abs-in-loop-done.ensures c.if-abs-o-3.true

pub returns-then-collapsed-clause-root : goal.returns-then-collapsed-clause-root
returns-then-collapsed-clause-root g c = λ f h.
    turn_collapsed f _ _ _ _ (c.loop-done.invariant f h) c.loop-done-test.true (h _ _ c.in_ok-point.ensures) c.abs-in-loop-done.ensures c.if-abs-o-3.false c.step-bracket.ensures c.if-collapsed.ensures

pub loop-done-preserved : goal.loop-done-preserved
loop-done-preserved g c = λ f h.
    turn_more f _ _ _ _ (c.loop-done.invariant f h) c.loop-done-test.true (h _ _ c.in_ok-point.ensures) c.abs-in-loop-done.ensures c.if-abs-o-3.false c.step-bracket.ensures c.if-collapsed.ensures

pub returns-clause-root : goal.returns-clause-root
returns-clause-root g c = λ f h. search_out f _ _ _ _ (c.loop-done.invariant f h) c.loop-done-test.false
