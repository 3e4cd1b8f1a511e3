-- `zektonk::zektonk_sentence` meets its contract. Assumes nothing.
use Rattle.zektonk.proofs.Said.{said, unsaid}
use Rattle.zektonk.proofs.zektonk_sentence.Goals as goal

pub returns-in-Ok : goal.returns-in-Ok
returns-in-Ok c =
    let w = rw c.place_from.ensures at c.write.ensures in
    let s = said _ c.args.bytes.now w.0 c.in-Ok.is in
    (s.0, w.1, s.1)

pub returns-in-Err : goal.returns-in-Err
returns-in-Err c =
    let w = rw c.place_from.ensures at c.write.ensures in
    let s = unsaid _ c.args.bytes.now w.0 c.in-Err.is c.from.ensures in
    (s.0, w.1, s.1)
