-- `queue::Shift::put_asked` meets its contract. Assumes nothing.
use lib.ListN.{length-replicate}
use Rattle.floats.specs.Arithmetic.{0f}
use Rattle.queue.proofs.Calls.{unready_run, unready_own, refused-left, refused-put, off-left, off-put}
use Rattle.queue.proofs.Shift.put_asked.Goals as goal

pub returns-in-Err : goal.returns-in-Err
returns-in-Err c =
    let p = c.requires in
    let h = rw c.in-Err.is at (c.make_ready-made.ensures (length-replicate 512 0f)) in
    let e = unready_run _ _ _ _ p.2 p.1 h in
    record {
      left = refused-left _ _ _ _ _ e _;
      part = refused-put _ _ _ _ _ e _ _ (unready_own _ _ _ _ p.2 p.1 h) p.0 (rw (c.from.ensures, c.args.self.ruled) at c.write_refusal.ensures);
    }

pub returns-then-left-most_evaluations : goal.returns-then-left-most_evaluations
returns-then-left-most_evaluations c =
    let p = c.requires in
    let h = rw c.in-Ok.is at (c.make_ready-made.ensures (length-replicate 512 0f)) in
    let l = rw c.most_evaluations.ensures at c.if-left-most_evaluations.true in
    record { left = off-left _ _ _ _ p.2 p.1 _ h l; part = off-put _ _ _ _ p.2 p.1 _ h l _ p.0 (rw c.args.self.ruled at c.write_put_off.ensures) }

pub run-requires : goal.run-requires
run-requires c =
    let p = c.requires in
    (p.0, p.1, p.2, rw c.most_evaluations.ensures at c.if-left-most_evaluations.false, rw c.in-Ok.is at (c.make_ready-made.ensures (length-replicate 512 0f)))
