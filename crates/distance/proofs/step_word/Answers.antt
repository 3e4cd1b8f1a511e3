-- `distance::step_word` meets its contract. Assumes nothing.
use borrow.Author.Rules.{rules}
use native.Mathlib.Omega.{arith}
use borrow.Author.Tests.{eq-eqb, ne_eqb}
use Rattle.distance.specs.Distance.{step_word}
use Rattle.distance.proofs.step_word.Goals as goal

pub returns-then-j-eq0 : goal.returns-then-j-eq0
unfolding step_word
returns-then-j-eq0 c = rw (eq-eqb _ _ c.if-j-eq0.true)

pub returns-else-j-eq0 : goal.returns-else-j-eq0
unfolding step_word
returns-else-j-eq0 c = rw (ne_eqb _ _ c.if-j-eq0.false) (omega arith)
