-- `question::check_inputs` meets its contract. Assumes nothing.
use mathlib.Core.Path.{sym, ◌∙◌}
use Rattle.question.proofs.Laws.{inputs_passed}
use Rattle.question.proofs.check_inputs.Goals as goal

pub returns-then-inputs_pass : goal.returns-then-inputs_pass
returns-then-inputs_pass c = sym (inputs_passed _ _ _ _ _ (sym c.inputs_pass.ensures ∙ c.if-inputs_pass.true))
