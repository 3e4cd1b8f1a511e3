use Rattle.floats.proofs.Folds.{all_next}
use Rattle.book.proofs.Bits.{or_top}
use Rattle.book.specs.Book.{floats_finite}
use Rattle.book.proofs.floats_finite.Goals as goal

pub loop-k-preserved : goal.loop-k-preserved
unfolding floats_finite
loop-k-preserved c = all_next _ _ (or_top c.loop-k.carries c.carry-carries.result) (rw c.word.ensures at c.carry-carries.ensures) c.loop-k.invariant
