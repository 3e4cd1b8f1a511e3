-- `nrtl_tables::row_right` meets its contract. Assumes nothing.
use mathlib.Core.Path.{refl}
use borrow.Author.Tests.{tests}
use Rattle.std.proofs.Common.{rules}
use Rattle.floats.proofs.Chains.{all_of_range}
use Rattle.nrtl_tables.specs.Pair.{both_above}
use Rattle.nrtl_tables.proofs.row_right.Goals as goal

pub returns : goal.returns
returns g c = all_of_range (both_above c.args.b (g.S.Source.six c.args.source.now) c.args.i) c.args.i refl c.all.ensures.ran (λ x q k. search (rules, tests)) (λ x q k. search (rules, tests))
