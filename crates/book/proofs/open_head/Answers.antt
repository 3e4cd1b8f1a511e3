-- `book::open_head` meets its contract. Each return rewrites by the tests that led there. Assumes nothing.
use Rattle.floats.specs.Outcome.{need}
use Rattle.book.proofs.Places.{head_shaped}
use Rattle.book.proofs.open_head.Goals as goal

pub returns-in_default : goal.returns-in_default
unfolding need
returns-in_default c = rw (head_shaped, c.in_default.ensures)

pub returns-then-not-model_right : goal.returns-then-not-model_right
unfolding need
returns-then-not-model_right c = rw (head_shaped, c.in-Some.ensures.0, ← c.if-not-model_right.ensures)

pub returns : goal.returns
unfolding need
returns c = rw (head_shaped, c.in-Some.ensures.0, ← c.if-not-model_right.ensures) (rw (c.in-Some.ensures.1, c.in-Some.ensures.2) at c.open_solvents.ensures)
