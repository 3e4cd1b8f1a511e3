-- `thermo_models::Solvents::all_cover` meets its contract: the test of every index. Assumes nothing.
use Rattle.std.proofs.Common.{rules}
use borrow.Author.Tests.{tests}
use Rattle.floats.proofs.Chains.{all_of_range}
use Rattle.thermo_models.specs.Domain.{solvent_covers}
use Rattle.thermo_models.proofs.Solvents.all_cover.Goals as goal
use mathlib.Core.Path.{refl}

pub returns : goal.returns
returns c = all_of_range (solvent_covers c.args.self.book.now c.args.self.t) c.args.self.m.n refl c.all.ensures.ran (λ x q k. search (rules, tests)) (λ x q k. search (rules, tests))
