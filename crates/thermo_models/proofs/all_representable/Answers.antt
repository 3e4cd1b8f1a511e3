-- `thermo_models::all_representable` meets its contract: the test of every index. Assumes nothing.
use mathlib.Core.Path.{refl}
use mathlib.Core.Bool.{not, ◌&&◌}
use lib.Ieee.{le}
use borrow.Author.Tests.{tests}
use Rattle.std.proofs.Common.{rules}
use Rattle.floats.specs.Arithmetic.{0f}
use Rattle.floats.specs.Small.{is_finite}
use Rattle.floats.specs.Vector.{at}
use Rattle.floats.proofs.Chains.{all_of_range}
use Rattle.thermo_models.proofs.all_representable.Goals as goal

pub returns : goal.returns
returns c = all_of_range (λ i. is_finite (at c.args.ps.now i) && is_finite (at c.args.ls.now i) && is_finite (at c.args.dps.now i) && is_finite (at c.args.cs.now i) && not (le (at c.args.ps.now i) 0f)) c.args.m.n refl c.all.ensures.ran (λ x q k. search (rules, tests)) (λ x q k. search (rules, tests))
