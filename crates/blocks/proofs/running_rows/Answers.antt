use Rattle.std.proofs.Common.{refl, arith}
use Rattle.blocks.proofs.Running.{lanes_start, lanes-turn, lanes_done, row_word, lanes-sum}
use Rattle.blocks.proofs.running_rows.Goals as goal

pub loop-r-init : goal.loop-r-init
loop-r-init c = lanes_start _

pub loop-c-preserved : goal.loop-c-preserved
loop-c-preserved c = lanes-turn _ _ _ (omega arith) (row_word _ _ _ (omega arith) c.word_from.ensures) refl refl c.loop-c.invariant

pub loop-r-preserved : goal.loop-r-preserved
loop-r-preserved c = lanes_done _ _ _ (omega arith) c.loop-c.invariant

pub returns : goal.returns
returns c = λ h. lanes-sum _ c.loop-r.invariant (omega arith) c.lanes_sum.ensures
