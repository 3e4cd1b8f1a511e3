-- `batch::answer` meets its contract. Assumes nothing.
use mathlib.Core.Path.{sym}
use native.Mathlib.Omega.{arith}
use Rattle.floats.specs.Outcome.{bind, need}
use Rattle.batch.specs.Feeds.{feeds_of}
use Rattle.sheet.proofs.Parts.{ends, ends_exit, leaves}
use Rattle.batch.proofs.Calls.{room-no, all_answered, few_feeds}
use Rattle.batch.proofs.answer.Goals as goal

pub returns-in_err-head : goal.returns-in_err-head
unfolding feeds_of bind
returns-in_err-head c = ends_exit _ _ c.from_residual.ensures.1 (rw (sym c.in_err-head.ensures))

pub returns-then-not-feeds_right : goal.returns-then-not-feeds_right
unfolding feeds_of bind need
returns-then-not-feeds_right c = ends (rw (sym c.in_ok-head.ensures, sym c.if-not-feeds_right.ensures))

pub overflow_mul-count : goal.overflow_mul-count
overflow_mul-count c = let few = few_feeds _ c.if-not-feeds_right.ensures in omega (arith, few)

pub returns-then-out-count : goal.returns-then-out-count
returns-then-out-count c = ends (room-no _ _ _ _ c.in_ok-head.ensures c.if-not-feeds_right.ensures c.if-out-count.true)

pub answer_feeds-requires : goal.answer_feeds-requires
answer_feeds-requires c = (few_feeds _ c.if-not-feeds_right.ensures, c.if-out-count.false)

pub returns : goal.returns
returns c = rw c.answer_feeds.ensures (leaves _ (all_answered _ _ _ _ c.in_ok-head.ensures c.if-not-feeds_right.ensures c.if-out-count.false))
