-- `sheet::Asked::write_answer` meets its contract. The loop's invariant: the trials so far stand behind the answer block, the old bytes behind them. Assumes nothing.
use mathlib.Core.Path.{◌≡◌}
use lib.ListN.{length}
use Rattle.sheet.proofs.Laws.{Behind}
use Rattle.sheet.proofs.Asked.write_answer.Given as goal

abbrev pub invariant-loop-k : goal.invariant-loop-k
invariant-loop-k l = Behind l.self.rule l.trials l.k l.initial.out l.out × (length l.out ≡ length l.initial.out)
