-- `book::row_right` meets its contract. Assumes nothing.
use Rattle.std.proofs.Common.{rules, ◌+◌, []}
use borrow.Author.Tests.{tests}
use Rattle.blocks.specs.Words.{word}
use Rattle.floats.proofs.Chains.{all_of_slice}
use Rattle.book.specs.Book.{pair_right}
use Rattle.book.proofs.row_right.Goals as goal

pub returns : goal.returns
returns c = all_of_slice (λ d s. pair_right (word s) c.args.i (c.args.i + 1 + d)) c.args.row.now [] (cc) (cc) c.all.ensures.ran (λ x q k. search (rules, tests)) (λ x q k. search (rules, tests))
