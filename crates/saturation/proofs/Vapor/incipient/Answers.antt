-- `saturation::Vapor::incipient` meets its contract. Assumes nothing.
use Rattle.std.proofs.Common.{◌≡◌, rules}
use Rattle.floats.specs.Vector.{vec}
use Rattle.floats.specs.Outcome.{bind}
use Rattle.outcome.proofs.Exits.{met}
use Rattle.saturation.specs.Saturation.{dew_term, incipient}
use Rattle.saturation.proofs.Laws.{pressure-is, liquid-is}
use Rattle.saturation.proofs.Vapor.incipient.Goals as goal
use Rattle.saturation.proofs.Vapor.incipient.Goals.{After-terms-w}

terms : (c : After-terms-w) → c.terms-w.result ≡ vec (dew_term c.args.self.y.now c.args.self.ps.now c.args.lg.now) c.args.self.m.n
unfolding dew_term
terms c = c.terms-w.ensures _ (λ k r p. search rules)

pub returns-in_err-liquid : goal.returns-in_err-liquid
unfolding incipient bind
returns-in_err-liquid c =
    rw (met c.in_err-liquid.field-0.0 c.from_residual.result c.from_residual.ensures.1, liquid-is _ _ _ _ c.args.self.m.few (terms (goal.at.returns-in_err-liquid c).After-terms-w) c.in_err-liquid.ensures)

pub returns : goal.returns
unfolding incipient bind
returns c =
    rw (
      liquid-is _ _ _ _ c.args.self.m.few (terms (goal.at.returns c).After-terms-w) c.in_ok-liquid.ensures,
      pressure-is _ _ _ _ c.args.self.m.few (terms (goal.at.returns c).After-terms-w) c.sum-pressure.ensures,
    )
