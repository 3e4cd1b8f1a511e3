-- A question to a book, as the code hands it on: the mixture that it is asked of, and the bytes of an answer to it. Assumes nothing.
use Rattle.std.specs.Prelude.{List, ℕ}
use Rattle.floats.specs.Vector.{places}
use Rattle.floats.specs.Outcome.{Out, ok, bind}
use Rattle.records.specs.Offered.{with_pair}
use Rattle.thermo_models.specs.Mixture.{Mixture, mixture_of}
use Rattle.rachford_rice.specs.declared.RachfordRice.{RachfordRice}
use Rattle.replies.specs.Blocks.{Answer}
use Rattle.replies.specs.Answers.{rice_block}
use Rattle.sheet.specs.Tasks.{alone}
use Rattle.sheet.specs.Sheet.{replied}
use Rattle.sheet.specs.declared.Source.{Source}
use Rattle.sheet.specs.declared.Asked.{Asked}

-- the book's, with the pair offered in the place of its own
abbrev pub mixture_in : Source → Mixture
mixture_in s = mixture_of (with_pair (places s.n) s.book.now s.offered.now) (places s.n)

abbrev pub bytes_for : Asked → Out Answer → Out (List ℕ)
bytes_for a o = replied a.rule a.q.now.task o

-- 8 and 9
unfoldable pub split : Out RachfordRice → Out Answer
split o = bind o (λ s. ok (alone (rice_block s.outcome s.liquid s.vapor)))
