-- `book::solvents_right` meets its contract. Assumes nothing.
use Rattle.std.proofs.Common.{rules, []}
use borrow.Author.Tests.{tests}
use Rattle.blocks.specs.Words.{word}
use Rattle.floats.proofs.Chains.{all_of_slice}
use Rattle.book.specs.Book.{solvent_right}
use Rattle.book.proofs.solvents_right.Goals as goal

pub returns : goal.returns
returns c = all_of_slice (λ i s. solvent_right (word s) i) c.args.solvents.now [] (cc) (cc) c.all.ensures.ran (λ x q k. search (rules, tests)) (λ x q k. search (rules, tests))
