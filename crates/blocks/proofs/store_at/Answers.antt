-- `blocks::store_at` meets its contract. A block at the front of the part from there on. Assumes nothing.
use Rattle.std.proofs.Common.{rules}
use Rattle.blocks.specs.Bytes.{word_at}
use Rattle.blocks.proofs.Laws.{block-put}
use Rattle.blocks.proofs.store_at.Goals as goal

pub returns : goal.returns
returns c = block-put _ _ _ _ (c.sum-check.ensures (word_at c.args.ws.now) (λ k x l h. search rules)) c.store_words.ensures
