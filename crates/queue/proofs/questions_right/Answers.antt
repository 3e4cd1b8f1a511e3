-- `queue::questions_right` meets its contract. Assumes nothing.
use mathlib.Core.Path.{sym, ◌∙◌}
use Rattle.queue.proofs.Calls.{count_no, count_yes}
use Rattle.queue.proofs.questions_right.Goals as goal

pub returns-then-count_right : goal.returns-then-count_right
returns-then-count_right c = count_yes _ _ c.if-count_right.ensures c.all_flashes.ensures

pub returns-else-count_right : goal.returns-else-count_right
returns-else-count_right c = c.count_right.ensures ∙ sym c.if-count_right.ensures ∙ count_no _ _ c.if-count_right.ensures
