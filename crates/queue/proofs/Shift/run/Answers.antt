-- `queue::Shift::run` meets its contract. Assumes nothing.
use native.Mathlib.Omega.{arith}
use Rattle.queue.proofs.Calls.{run-taken, run-answered, run-refused}
use Rattle.queue.proofs.Shift.run.Goals as goal
use Rattle.queue.proofs.Shift.run.Goals.{in-Err, in_default}

pub overflow_sub-result : goal.overflow_sub-result
overflow_sub-result c =
    let p = c.requires in
    let w = run-taken _ _ _ _ p.2 p.1 _ p.3 (omega arith) (omega arith) (c.flash_ready-ran.ensures.counted p.0 p.4) in
    omega (arith, w.0)

pub returns-clause-left : goal.returns-clause-left
returns-clause-left c =
    let p = c.requires in
    (run-taken _ _ _ _ p.2 p.1 _ p.3 (omega arith) (omega arith) (c.flash_ready-ran.ensures.counted p.0 p.4)).1

pub returns-clause-part : goal.returns-clause-part
returns-clause-part c =
    let p = c.requires in
    let a = c.flash_ready-ran.ensures.answers p.1 p.4 in
    elim c.match-ran.branch [
      | in-Err w ↦ rw w.out-is (run-refused _ _ _ _ p.2 p.1 _ p.3 p.0 a w.in-Err.is (rw (w.from.ensures, c.args.self.ruled) at w.write_refusal.ensures))
      | in_default w ↦ rw w.out-is (run-answered _ _ _ _ p.2 p.1 _ p.3 p.0 a w.in_default.is)
    ]
