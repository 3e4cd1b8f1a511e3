-- `batch::Call::answer_feeds` meets its contract. The loop's invariant: the parts so far are written, and what was made is ready for the question. Assumes nothing.
use mathlib.Core.Path.{◌≡◌}
use lib.ListN.{length}
use Rattle.floats.specs.Vector.{places}
use Rattle.thermo_models.specs.Mixture.{mixture_of}
use Rattle.batch.specs.Feeds.{parts_to, Keeps}
use Rattle.batch.proofs.Call.answer_feeds.Given as goal

abbrev pub invariant-loop-k : goal.invariant-loop-k
invariant-loop-k l =
    (l.out ≡ parts_to l.self.book.now l.self.head.version (places l.self.head.n) l.self.question.now l.feeds l.initial.out l.k)
    × Keeps (mixture_of l.self.book.now (places l.self.head.n)) l.self.question.now l.kept.made l.kept.table l.kept.ps × (length l.out ≡ length l.initial.out)
