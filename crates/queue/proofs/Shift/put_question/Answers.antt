-- `queue::Shift::put_question` meets its contract. Assumes nothing.
use mathlib.Core.Path.{sym}
use Rattle.floats.proofs.Outcomes.{bind-no}
use Rattle.queue.proofs.Calls.{unread-run, refused-left, refused-put, put-seven, put-limit}
use Rattle.queue.proofs.Shift.put_question.Goals as goal

pub returns-in-Err : goal.returns-in-Err
returns-in-Err c =
    let o = sym (rw (c.in-Err.is, c.args.self.ruled) at c.read_question.ensures) in
    let e = unread-run _ _ _ _ o in
    record {
      left = refused-left _ _ _ _ _ e _;
      part = refused-put _ _ _ _ _ e _ _ (bind-no _ o) c.requires.0 (rw (c.from.ensures, c.args.self.ruled) at c.write_refusal.ensures);
    }

pub put_asked-requires : goal.put_asked-requires
put_asked-requires c =
    let o = sym (rw (c.in-Ok.is, c.args.self.ruled) at c.read_question.ensures) in
    let f = rw c.args.self.ruled at c.requires.1 in
    (c.requires.0, put-seven _ _ _ _ f o, o, put-limit _ _ _ _ f o)
