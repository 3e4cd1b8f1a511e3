-- `book::cas_distinct` meets its contract. Assumes nothing.
use Rattle.std.proofs.Common.{rules, not, eqb, take, []}
use borrow.Author.Tests.{tests}
use Rattle.std.specs.List.{list_all}
use Rattle.blocks.specs.Words.{word}
use Rattle.floats.proofs.Chains.{all_of_slice}
use Rattle.book.proofs.cas_distinct.Goals as goal

pub returns : goal.returns
returns c =
    all_of_slice (λ i s. list_all (λ b. not (eqb (word b 2) (word s 2))) (take i c.args.solvents.now)) c.args.solvents.now [] (cc) (cc) c.all.ensures.ran
    (λ x q k. search (rules, tests)) (λ x q k. search (rules, tests))
