-- `question::read_question` meets its contract. Assumes nothing.
use mathlib.Core.Path.{sym, ◌∙◌}
use Rattle.std.proofs.Common.{rules}
use Rattle.question.proofs.Laws.{no_block, put_to_feed}
use Rattle.question.proofs.read_question.Goals as goal

pub returns-in_default : goal.returns-in_default
returns-in_default c = sym (no_block _ _ _ _ _ c.in_default.ensures.1)

pub returns : goal.returns
returns c = c.rest_with.ensures ∙ put_to_feed _ _ _ _ _ c.in_ok-read_task.ensures c.if-not-kind_right.ensures (search rules)
