-- `still::reason` meets its contract. Assumes nothing.
use native.Mathlib.Omega.{arith}
use Rattle.still.proofs.Reasons.{written_so, never_refused}
use Rattle.still.proofs.reason.Goals as goal

pub returns-in-Ok : goal.returns-in-Ok
returns-in-Ok c =
    let w = rw (c.from.ensures, c.place_of-place.ensures) at c.write.ensures in
    written_so c.args.refusal _ _ (omega arith) w.0 c.in-Ok.is w.1

pub returns-in-Err : goal.returns-in-Err
returns-in-Err c =
    let w = rw (c.from.ensures, c.place_of-place.ensures) at c.write.ensures in
    absurd (never_refused c.args.refusal _ _ (omega arith) w.0 c.in-Err.is)
