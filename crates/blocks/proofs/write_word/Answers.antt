-- `blocks::write_word` meets its contract. The word fits, or nothing is written. Assumes nothing.
use Rattle.std.proofs.Common.{sym, ◌∙◌, arith}
use Rattle.blocks.proofs.Laws.{stored-fits, stored_short, length_bytes}
use Rattle.blocks.proofs.write_word.Goals as goal

pub returns-then-k-out : goal.returns-then-k-out
returns-then-k-out c = c.store_word.ensures ∙ sym (stored-fits _ _ _ (length_bytes _) (omega arith))

pub returns-else-k-out : goal.returns-else-k-out
returns-else-k-out c = sym (stored_short _ _ _ (length_bytes _) (omega arith))
