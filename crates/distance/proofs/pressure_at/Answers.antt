-- `distance::pressure_at` meets its contract. Assumes nothing.
use borrow.Author.Rules.{rules}
use borrow.Author.Tests.{eq-eqb, ne_eqb}
use lib.Ieee.{sub}
use Rattle.distance.specs.Distance.{pressure_at}
use Rattle.distance.proofs.pressure_at.Goals as goal

pub returns-then-j-eq0 : goal.returns-then-j-eq0
unfolding pressure_at
returns-then-j-eq0 c = rw (eq-eqb _ _ c.if-j-eq0.true, c.hundreds-away.ensures)

pub returns-else-j-eq0 : goal.returns-else-j-eq0
unfolding pressure_at sub
returns-else-j-eq0 c = rw (ne_eqb _ _ c.if-j-eq0.false, c.hundreds-away.ensures)
