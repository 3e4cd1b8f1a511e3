-- `batch::Call::answer_feed` meets its contract. Assumes nothing.
use mathlib.Core.Path.{sym, ◌∙◌}
use Rattle.floats.proofs.Outcomes.{bind_yes, bind-no}
use Rattle.sheet.proofs.Laws.{same_as, quits}
use Rattle.sheet.proofs.Dispatch.{unroomed}
use Rattle.batch.proofs.Calls.{feed_stopped, feed_asked, feed-warm, feed_ready, keeps-made}
use Rattle.batch.proofs.Call.answer_feed.Goals as goal

pub returns-in_err-among : goal.returns-in_err-among
returns-in_err-among c = record {
  keeps = c.requires.2;
  answers = quits _ _ c.from_residual.ensures.1 (feed_stopped _ _ _ _ _ (rw c.in_err-among.was at c.requires.1));
}

pub returns-in_err-q : goal.returns-in_err-q
returns-in_err-q c = record {
  keeps = c.requires.2;
  answers = quits _ _ c.from_residual-in_err-q.ensures.1 (feed_asked _ _ _ _ _ (rw c.in_ok-among.was at c.requires.1) ∙ bind-no _ (sym c.in_err-q.ensures));
}

pub returns : goal.returns
returns c = let v = rw c.in_ok-among.was at c.requires.1 in
    let e = c.in_ok-q.ensures in
    let h = c.kept_or_made-made.ensures c.requires.2 in
    record {
      keeps = keeps-made h;
      answers = same_as (feed_asked _ _ _ _ _ v ∙ bind_yes _ (sym e)) (unroomed c.requires.0 (c.answer_ready.ensures.answers (feed-warm _ _ _ _ _ v e) (feed_ready _ _ _ _ _ v e h)));
    }
