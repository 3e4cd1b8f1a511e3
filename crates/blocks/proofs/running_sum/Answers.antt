use Rattle.std.proofs.Common.{refl}
use Rattle.blocks.specs.Words.{check_sum, running_sum}
use Rattle.blocks.proofs.Laws.{sum-turn, runs-turn}
use Rattle.blocks.proofs.running_sum.Goals as goal

pub loop-k-init : goal.loop-k-init
unfolding check_sum running_sum
loop-k-init g c = λ w h. (refl, refl)

pub loop-k-preserved : goal.loop-k-preserved
loop-k-preserved g c = λ w h.
    let sum = sum-turn w _ (c.loop-k.invariant w h).0 (h _ _ c.loop-k-test.true c.word-sum.ensures) refl in
    (sum, runs-turn w _ (c.loop-k.invariant w h).1 sum refl)
