-- `zektonk::preview_place_in` meets its contract. Assumes nothing.
use Rattle.zektonk.proofs.Placed.{preview-nowhere}
use Rattle.zektonk.proofs.preview_place_in.Goals as goal

pub returns-in-Ok : goal.returns-in-Ok
returns-in-Ok c = rw c.in-Ok.is (preview-nowhere _)
