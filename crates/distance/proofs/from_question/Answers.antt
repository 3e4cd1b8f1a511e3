-- `distance::from_question` meets its contract. Assumes nothing.
use mathlib.Core.Path.{sym}
use lib.ListN.{length-replicate}
use Rattle.floats.specs.Arithmetic.{0f}
use Rattle.floats.specs.Outcome.{bind}
use Rattle.outcome.proofs.Exits.{met}
use Rattle.distance.proofs.Central.{ready_no}
use Rattle.distance.proofs.Calls.{feed-no, feed-ok, same-feed}
use Rattle.distance.proofs.from_question.Goals as goal

pub returns-in_err-at : goal.returns-in_err-at
returns-in_err-at c = rw (met c.in_err-at.field-0.0 c.from_residual.result c.from_residual.ensures.1) (sym (ready_no _ _ _ c.requires (c.in_err-at.ensures (length-replicate 512 0f))))

pub returns-in_err-feed : goal.returns-in_err-feed
unfolding bind
returns-in_err-feed c = let r = c.from_residual-in_err-feed in
    rw (met c.in_err-feed.field-0.0 r.result r.ensures.1) (feed-no _ _ _ c.requires (c.in_ok-at.ensures (length-replicate 512 0f)) c.in_err-feed.ensures.saturated)

pub returns : goal.returns
unfolding bind
returns c = let f = c.in_ok-feed.ensures in
    feed-ok _ _ _ c.requires (c.in_ok-at.ensures (length-replicate 512 0f)) c.in_ok-feed.feed f.saturated (same-feed _ _ f.feed) c.from_feed.ensures
