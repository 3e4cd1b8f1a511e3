-- `book::Model::pair_sound` meets its contract. Assumes nothing.
use Rattle.book.proofs.Sound.{wilson_sound}
use Rattle.book.proofs.Model.pair_sound.Goals as goal

pub returns-in-Wilson : goal.returns-in-Wilson
returns-in-Wilson c = let e = c.in-Wilson.is in rw e (wilson_sound _ (rw e at c.pair_finite.ensures))
