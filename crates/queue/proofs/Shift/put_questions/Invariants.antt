-- `queue::Shift::put_questions` meets its contract. The loop's invariant: the parts so far are written, and so much is left. Assumes nothing.
use mathlib.Core.Path.{◌≡◌}
use lib.ListN.{length}
use Rattle.floats.specs.Vector.{places}
use Rattle.queue.specs.Queue.{left_at, parts_to}
use Rattle.queue.proofs.Shift.put_questions.Given as goal

abbrev pub invariant-loop-k : goal.invariant-loop-k
invariant-loop-k l =
    (l.out ≡ parts_to l.self.book.now l.self.head.version (places l.self.head.n) l.questions l.allowance l.initial.out l.k)
    × (l.left ≡ left_at l.self.book.now l.self.head.version (places l.self.head.n) l.questions l.allowance l.k) × (length l.out ≡ length l.initial.out)
