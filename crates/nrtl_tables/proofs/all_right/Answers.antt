-- `nrtl_tables::all_right` meets its contract. Assumes nothing.
use borrow.Author.Tests.{tests}
use Rattle.std.proofs.Common.{rules}
use Rattle.floats.specs.Fold.{all_to}
use Rattle.floats.proofs.Chains.{all_of_range}
use Rattle.nrtl_tables.specs.Pair.{both_above, all_above}
use Rattle.nrtl_tables.proofs.all_right.Goals as goal

pub returns : goal.returns
unfolding all_above
returns g c = all_of_range (λ i. all_to (both_above c.args.b (g.S.Source.six c.args.source.now) i) i) (g.S.Source.size c.args.source.now) c.count.ensures c.all.ensures.ran (λ x q k. search (rules, tests)) (λ x q k. search (rules, tests))
