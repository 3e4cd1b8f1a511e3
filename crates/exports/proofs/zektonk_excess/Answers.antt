-- `exports::zektonk_excess` meets its contract: the slice's length, then what the call gives. Assumes nothing.
use borrow.Author.Tests.{le-leb}
use Rattle.floats.specs.Outcome.{need}
use Rattle.exports.proofs.Fronts.{excess_in_front}
use Rattle.exports.proofs.zektonk_excess.Goals as goal

pub returns : goal.returns
unfolding need
returns c = let h = c.in-Some.ensures.cases in rw (le-leb 23 _ h.enough, c.number_in.ensures) (excess_in_front _ _ h.enough (rw h.same at c.excess_at.ensures))
