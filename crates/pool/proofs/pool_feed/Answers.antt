-- `pool::pool_feed` meets its contract. Assumes nothing.
use native.Mathlib.Nat.{min-eq_left}
use Rattle.pool.proofs.Laws.{normalized_vec}
use Rattle.pool.proofs.pool_feed.Goals as goal

pub returns : goal.returns
returns c = normalized_vec _ _ c.args.m.few c.amounts.ensures (rw (min-eq_left c.args.m.few) at c.normalize.ensures)
