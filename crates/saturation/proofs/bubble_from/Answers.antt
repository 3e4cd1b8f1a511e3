-- `saturation::bubble_from` meets its contract. Assumes nothing.
use Rattle.std.proofs.Common.{◌≡◌, rules}
use Rattle.floats.specs.Vector.{vec}
use Rattle.saturation.specs.Saturation.{partial_of}
use Rattle.saturation.proofs.Laws.{bubble-refused, bubble_good}
use Rattle.saturation.proofs.bubble_from.Goals as goal
use Rattle.saturation.proofs.bubble_from.Goals.{After-terms-w}

terms : (c : After-terms-w) → c.terms-w.result ≡ vec (partial_of c.args.x.now c.args.lg.now c.args.ps.now) c.of-m.result.n
unfolding partial_of
terms c = c.terms-w.ensures _ (λ k r p. search rules)

pub returns-then-is_finite-p : goal.returns-then-is_finite-p
returns-then-is_finite-p c = bubble-refused _ _ _ _ c.of-m.ensures (terms (goal.at.returns-then-is_finite-p c).After-terms-w) c.sum-p.ensures c.is_finite.ensures c.if-is_finite-p.true

pub returns : goal.returns
returns c = bubble_good _ _ _ _ c.of-m.ensures (terms (goal.at.returns c).After-terms-w) c.sum-p.ensures c.is_finite.ensures c.if-is_finite-p.false c.divided-vapor.ensures
