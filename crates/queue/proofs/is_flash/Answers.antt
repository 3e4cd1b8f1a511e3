-- `queue::is_flash` meets its contract: another task, and another refusal. Assumes nothing.
use Rattle.queue.proofs.Calls.{flash_other, flash_refused}
use Rattle.queue.proofs.is_flash.Goals as goal

pub returns-in_default : goal.returns-in_default
returns-in_default c = flash_other c.read_task.ensures c.in-Ok.is c.in_default.not-Flash

pub returns-in_default-matches : goal.returns-in_default-matches
returns-in_default-matches c = flash_refused c.read_task.ensures c.in-Err.is c.in_default-matches.not-QuestionBlock
