-- `rachford_rice::rachford_rice` meets its contract: by the tests, and then by g(0) and g(1). Assumes nothing.
use Rattle.floats.specs.Outcome.{bind, choose}
use Rattle.outcome.proofs.Exits.{met}
use Rattle.rachford_rice.specs.Rachford.{constrained, negative}
use Rattle.rachford_rice.proofs.Laws.{validate_then}
use Rattle.rachford_rice.proofs.rachford_rice.Goals as goal

pub returns-in_err-validate : goal.returns-in_err-validate
unfolding constrained bind
returns-in_err-validate c = rw (← validate_then, ← c.in_err-validate.ensures) (met c.in_err-validate.field-0.0 c.from_residual.result c.from_residual.ensures.1)

pub returns-then-residual : goal.returns-then-residual
unfolding constrained bind choose
returns-then-residual c = rw (
  ← validate_then,
  ← c.in_ok-validate.ensures,
  ← c.of.ensures,
  ← c.residual.ensures,
  c.if-residual.true,
  c.one_phase.ensures,
)

pub returns-then-residual-2 : goal.returns-then-residual-2
unfolding constrained bind choose
returns-then-residual-2 c = rw (
  ← validate_then,
  ← c.in_ok-validate.ensures,
  ← c.of.ensures,
  ← c.residual.ensures,
  c.if-residual.false,
  ← c.residual-2.ensures,
  c.if-residual-2.true,
  c.one_phase-then-residual-2.ensures,
)

pub returns : goal.returns
unfolding constrained negative bind choose
returns c = rw (
  ← validate_then,
  ← c.in_ok-validate.ensures,
  ← validate_then,
  ← c.in_ok-validate.ensures,
  ← c.of.ensures,
  ← c.residual.ensures,
  c.if-residual.false,
  ← c.residual-2.ensures,
  c.if-residual-2.false,
) c.between.ensures
