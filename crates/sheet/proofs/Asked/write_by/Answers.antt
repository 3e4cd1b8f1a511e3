-- `sheet::Asked::write_by` meets its contract. Assumes nothing.
use native.Mathlib.Omega.{arith}
use Rattle.sheet.proofs.Laws.{alone_yes}
use Rattle.sheet.proofs.Asked.write_by.Goals as goal

pub returns : goal.returns
returns c = alone_yes _ _ _ (omega arith) c.requires c.answer_words.ensures c.write_block.ensures
