use borrow.Author.Tests.{tests}
use Rattle.std.proofs.Common.{arith, rules}
use Rattle.floats.proofs.Made.{filled}
use Rattle.question.proofs.Laws.{word-kept}
use Rattle.floats.specs.Vector.{places}
use Rattle.question.proofs.floats_from.Goals as goal

pub returns : goal.returns
returns c = filled _ _ (places c.args.n) (omega arith) c.from_fn.ensures.items (λ i y q k. search (rules, tests, word-kept))
