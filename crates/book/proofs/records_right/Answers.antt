-- `book::records_right` meets its contract. From what the callees ensure. Assumes nothing.
use Rattle.book.proofs.Sound.{records_scanned}
use Rattle.book.proofs.records_right.Goals as goal

pub returns-then-floats_finite : goal.returns-then-floats_finite
returns-then-floats_finite c = records_scanned _ c.floats_finite.ensures c.if-floats_finite.true c.range_right.ensures c.range_right-then-floats_finite.ensures
