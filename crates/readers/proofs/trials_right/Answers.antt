use mathlib.Core.Path.{refl, sym}
use native.Mathlib.Omega.{arith}
use borrow.Author.Tests.{eq-eqb, ne_eqb}
use Rattle.floats.proofs.Folds.{all_end, all_turn, all_fails}
use Rattle.floats.specs.Fold.{all_to}
use Rattle.readers.specs.Readers.{trials_right}
use Rattle.readers.proofs.trials_right.Goals as goal

pub loop-k-init : goal.loop-k-init
unfolding trials_right all_to
loop-k-init c = (omega arith, refl)

pub returns-then-word-ne10 : goal.returns-then-word-ne10
unfolding trials_right
returns-then-word-ne10 c = let seen = rw c.block.ensures at c.word.ensures in
    sym (all_fails _ _ _ c.loop-k-test.true (rw (← seen) (ne_eqb _ 10 c.if-word-ne10.true)))

pub loop-k-preserved : goal.loop-k-preserved
unfolding trials_right
loop-k-preserved c = let seen = rw c.block.ensures at c.word.ensures in
    (omega arith, all_turn _ _ c.loop-k.invariant.1 (rw (← seen) (eq-eqb _ 10 c.if-word-ne10.false)))

pub returns : goal.returns
unfolding trials_right
returns c = all_end _ _ _ c.loop-k.invariant.0 c.loop-k-test.false c.loop-k.invariant.1
