-- `replies::put_floats` meets its contract. The loop's invariant: the words passed are stored. Assumes nothing.
use mathlib.Core.Path.{◌≡◌}
use Rattle.floats.specs.Small.{bits_of}
use Rattle.floats.specs.Vector.{at, fill_from}
use Rattle.replies.proofs.put_floats.Given as goal

abbrev pub invariant-loop-i : goal.invariant-loop-i
invariant-loop-i l = l.ws ≡ fill_from (λ k. bits_of (at l.x k)) l.from l.i l.initial.ws
