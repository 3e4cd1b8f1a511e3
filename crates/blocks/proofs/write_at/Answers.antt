-- `blocks::write_at` meets its contract. The block fits, or nothing is written. Assumes nothing.
use Rattle.std.proofs.Common.{sym, ◌∙◌, arith}
use Rattle.blocks.proofs.Laws.{stored-fits, stored_short, length_block-bytes}
use Rattle.blocks.proofs.write_at.Goals as goal

pub returns-then-b-out : goal.returns-then-b-out
returns-then-b-out c = c.store_at.ensures ∙ sym (stored-fits _ _ _ (length_block-bytes _ _) (omega arith))

pub returns-else-b-out : goal.returns-else-b-out
returns-else-b-out c = sym (stored_short _ _ _ (length_block-bytes _ _) (omega arith))
