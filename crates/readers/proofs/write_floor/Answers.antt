-- `readers::write_floor` meets its contract. Assumes nothing.
use Rattle.readers.proofs.Laws.{fills_no, fills_short, fills_ok}
use Rattle.readers.proofs.write_floor.Goals as goal

pub returns-in_err-words : goal.returns-in_err-words
returns-in_err-words c = fills_no _ _ _ c.from_residual.ensures.1 c.in_err-words.ensures

pub returns-then-out-lt22 : goal.returns-then-out-lt22
returns-then-out-lt22 c = fills_short _ c.in_ok-words.ensures c.if-out-lt22.true

pub returns : goal.returns
returns c = fills_ok _ c.in_ok-words.ensures c.if-out-lt22.false c.copy_from_slice.ensures.after
