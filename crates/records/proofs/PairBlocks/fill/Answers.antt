use native.Mathlib.Omega.{arith}
use Rattle.blocks.specs.Words.{word}
use Rattle.records.proofs.Loads.{square_holds, square-more, square_done}
use Rattle.records.specs.Offered.{pair_at}
use Rattle.records.proofs.PairBlocks.fill.Goals as goal

pub loop-i-init : goal.loop-i-init
loop-i-init c = square_holds _

pub loop-i-preserved : goal.loop-i-preserved
loop-i-preserved c = square-more _ (λ k. word (pair_at _ _ _ k)) _ _ (omega arith) c.loop-i.invariant c.fill_border.ensures c.diagonal.ensures
