-- `book::nrtl_sound` meets its contract. The scan shows both. Assumes nothing.
use Rattle.book.proofs.Sound.{pair_scanned}
use Rattle.book.proofs.nrtl_sound.Goals as goal

pub returns-then-same-floats_finite : goal.returns-then-same-floats_finite
returns-then-same-floats_finite c = pair_scanned _ c.word.ensures c.word-2.ensures c.word-3.ensures c.word-4.ensures c.floats_finite.ensures c.if-same-floats_finite.true
