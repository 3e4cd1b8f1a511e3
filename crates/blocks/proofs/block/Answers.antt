-- `blocks::block` meets its contract. A whole block, what there is of one, or none. Assumes nothing.
use Rattle.std.proofs.Common.{[], sym, ◌∙◌, arith}
use Rattle.blocks.proofs.Laws.{block-whole, block-rest, block_none}
use Rattle.blocks.proofs.block.Goals as goal

pub returns-in-Some : goal.returns-in-Some
returns-in-Some c = let l = c.in-Some.ensures.lookup.3 in l.1 [] ∙ rw c.as_chunks.ensures.front (block-whole _ c.args.book.now c.args.k (omega (arith, l.0, c.as_chunks.ensures.front_len)))

pub returns-in-None : goal.returns-in-None
returns-in-None c = c.as_chunks.ensures.back ∙ block-rest _ _ (omega (arith, c.if-k-blocks.true, c.as_chunks.ensures.front_len))

pub returns-in-None-2 : goal.returns-in-None-2
returns-in-None-2 c = sym (block_none _ _ (omega (arith, c.in-None.ensures.lookup.3, c.if-k-blocks.false, c.as_chunks.ensures.front_len)))
