-- `zektonk::place_in` meets its contract. Assumes nothing.
use Rattle.zektonk.proofs.Placed.{yes-nowhere}
use Rattle.zektonk.proofs.place_in.Goals as goal

pub returns-in-Ok : goal.returns-in-Ok
returns-in-Ok c = rw c.in-Ok.is (yes-nowhere _)
