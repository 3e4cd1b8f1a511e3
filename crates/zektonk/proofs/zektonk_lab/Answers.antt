-- `zektonk::zektonk_lab` meets its contract. Assumes nothing.
use mathlib.Core.Path.{ap}
use Rattle.readers.specs.Readers.{lab_bytes}
use Rattle.zektonk.proofs.zektonk_lab.Goals as goal

pub returns-in-Ok : goal.returns-in-Ok
unfolding lab_bytes
returns-in-Ok c = ap lab_bytes c.in-Ok.ensures

pub returns-in-Err : goal.returns-in-Err
unfolding lab_bytes
returns-in-Err c = ap lab_bytes c.in-Err.ensures
