-- `jet::raise` meets its contract. Assumes nothing.
use Rattle.jet.proofs.Lanes.{raise_turn}
use Rattle.jet.proofs.raise.Goals as goal

pub loop-k-preserved : goal.loop-k-preserved
loop-k-preserved g c = raise_turn c.loop-k.k c.args.lanes.now c.raised.ensures c.loop-k.invariant
