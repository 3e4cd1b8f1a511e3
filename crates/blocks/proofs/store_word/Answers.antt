-- `blocks::store_word` meets its contract. Assumes nothing.
use Rattle.std.proofs.Common.{◌∙◌}
use Rattle.blocks.proofs.Laws.{word-put}
use Rattle.blocks.proofs.store_word.Goals as goal

pub returns : goal.returns
returns c = word-put c.args.out.now c.args.w _ (c.copy_from_slice.ensures.after ∙ c.to_le_bytes.ensures)
