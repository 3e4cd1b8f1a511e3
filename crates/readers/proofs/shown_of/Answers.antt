-- `readers::shown_of` meets its contract. Assumes nothing.
use native.Mathlib.Omega.{arith}
use borrow.Author.Tests.{eq-eqb, ne_eqb}
use Rattle.readers.specs.Readers.{shown_of}
use Rattle.readers.proofs.shown_of.Goals as goal

pub returns-then-task-eq1 : goal.returns-then-task-eq1
unfolding shown_of
returns-then-task-eq1 c = (rw (eq-eqb _ 1 c.if-task-eq1.true), omega arith)

pub returns-else-task-eq1 : goal.returns-else-task-eq1
unfolding shown_of
returns-else-task-eq1 c = (rw (ne_eqb _ 1 c.if-task-eq1.false), omega arith)
