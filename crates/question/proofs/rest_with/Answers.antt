-- `question::rest_with` meets its contract. Assumes nothing.
use mathlib.Core.Path.{sym}
use Rattle.floats.specs.Outcome.{bind}
use Rattle.outcome.proofs.Exits.{met}
use Rattle.question.specs.Asked.{rest_of}
use Rattle.question.proofs.Laws.{inputs_behind, limits_behind}
use Rattle.question.proofs.rest_with.Goals as goal

pub returns-in_err-check_inputs : goal.returns-in_err-check_inputs
unfolding rest_of bind
returns-in_err-check_inputs c = rw (← c.requires, inputs_behind, sym c.in_err-check_inputs.ensures, met _ c.from_residual.result c.from_residual.ensures.1)

pub returns-in_err-z : goal.returns-in_err-z
unfolding rest_of bind
returns-in_err-z c = rw (← c.requires, inputs_behind, sym c.in_ok-check_inputs.ensures, sym c.in_err-z.ensures, met _ c.from_residual-in_err-z.result c.from_residual-in_err-z.ensures.1)

pub returns-in_err-check_limits : goal.returns-in_err-check_limits
unfolding rest_of bind
returns-in_err-check_limits c = rw (← c.requires, inputs_behind, sym c.in_ok-check_inputs.ensures, sym c.in_ok-z.ensures, limits_behind, sym c.in_err-check_limits.ensures, met _ c.from_residual-in_err-check_limits.result c.from_residual-in_err-check_limits.ensures.1)

pub returns : goal.returns
unfolding rest_of bind
returns c = rw (← c.requires, inputs_behind, sym c.in_ok-check_inputs.ensures, sym c.in_ok-z.ensures, limits_behind, sym c.in_ok-check_limits.ensures, c.question_from.ensures)
