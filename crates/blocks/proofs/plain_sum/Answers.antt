use Rattle.std.proofs.Common.{refl}
use Rattle.blocks.specs.Words.{check_sum}
use Rattle.blocks.proofs.Laws.{sum-turn}
use Rattle.blocks.proofs.plain_sum.Goals as goal

pub loop-k-init : goal.loop-k-init
unfolding check_sum
loop-k-init g c = λ w h. refl

pub loop-k-preserved : goal.loop-k-preserved
loop-k-preserved g c = λ w h. sum-turn w _ (c.loop-k.invariant w h) (h _ _ c.loop-k-test.true c.word-sum.ensures) refl
