use Rattle.std.proofs.Common.{arith}
use Rattle.blocks.proofs.Laws.{word-turn, words-end}
use Rattle.blocks.proofs.store_words.Goals as goal

pub loop-k-preserved : goal.loop-k-preserved
loop-k-preserved c = (omega arith, word-turn _ _ _ c.loop-k.invariant.1 c.store_word.ensures, omega arith)

pub returns : goal.returns
returns c = words-end _ _ _ c.loop-k.invariant.0 c.loop-k-test.false c.loop-k.invariant.1 c.store_word-2.ensures
